use mathlib.Core.List.{◌∷◌}
use mathlib.Core.Path.{refl}
use lib.ListN.{length}
use Rattle.lines.specs.Text.{letters}
use Rattle.lines.specs.Fields.{number}
use Rattle.lines.specs.Report.{events, offered}
use Rattle.lines.proofs.Drawing.{took_then, draws_then, draws_short, draws_short_then}
use Rattle.lines.proofs.Led.{led-word, led-word_then}
use Rattle.lines.proofs.verdict.refusal_fault.Goals as goal

pub returns-in_err-next_word : goal.returns-in_err-next_word
unfolding letters
returns-in_err-next_word g c =
    draws_short g.P.Pen.laws _ _ (led-word "refusal-fault" _) c.from_residual.ensures.0 c.in_err-next_word.ensures

pub returns-in_err-traced : goal.returns-in_err-traced
unfolding letters
returns-in_err-traced g c =
    let s = c.args.s.now in
    let e = led-word_then "refusal-fault" (number (length s) ∷ events s) (offered c.args.set) in
    draws_short_then g.P.Pen.laws _ _ e c.from_residual-in_err-traced.ensures.0 c.in_ok-next_word.ensures.ok c.in_err-traced.ensures

pub returns : goal.returns
unfolding letters
returns g c =
    let s = c.args.s.now in
    let e = led-word_then "refusal-fault" (number (length s) ∷ events s) (offered c.args.set) in
    draws_then g.P.Pen.laws _ e (took_then g.P.Pen.laws refl c.in_ok-next_word.ensures.ok c.in_ok-traced.ensures.ok) c.offers.ensures
