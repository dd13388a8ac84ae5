use mathlib.Core.List.{[], ◌∷◌}
use mathlib.Core.Path.{refl}
use lib.ListN.{length}
use Rattle.lines.specs.Text.{letters}
use Rattle.lines.specs.Fields.{number}
use Rattle.lines.specs.Report.{members, events}
use Rattle.lines.proofs.Drawing.{took_then, draws_then, draws_short, draws_short_then}
use Rattle.lines.proofs.Led.{led-word, led-word_then}
use Rattle.lines.proofs.offers.offers.Goals as goal

pub returns-in_err-next_word : goal.returns-in_err-next_word
unfolding letters
returns-in_err-next_word g c =
    draws_short g.P.Pen.laws _ _ (led-word "offers" _) c.from_residual.ensures.0 c.in_err-next_word.ensures

pub returns-in_err-next_number : goal.returns-in_err-next_number
unfolding letters
returns-in_err-next_number g c =
    let s = c.args.set in
    let e = led-word_then "offers" (number (length (members s)) ∷ []) (events (members s)) in
    draws_short_then g.P.Pen.laws _ _ e c.from_residual-in_err-next_number.ensures.0 c.in_ok-next_word.ensures.ok
    (rw c.count.ensures at c.in_err-next_number.ensures)

pub returns : goal.returns
unfolding letters
returns g c =
    let s = c.args.set in
    let e = led-word_then "offers" (number (length (members s)) ∷ []) (events (members s)) in
    draws_then g.P.Pen.laws _ e
    (took_then g.P.Pen.laws refl c.in_ok-next_word.ensures.ok (rw c.count.ensures at c.in_ok-next_number.ensures.ok))
    c.members.ensures
