use mathlib.Core.Path.{refl}
use Rattle.refine.specs.Verdicts.{answer_of}
use Rattle.lines.proofs.Drawing.{took_then, draws_then, draws_short, draws_short_then}
use Rattle.lines.proofs.Making.{line_head, line_parts}
use Rattle.lines.proofs.draw.Goals as goal

pub returns-in_err-mode_word : goal.returns-in_err-mode_word
returns-in_err-mode_word g c =
    draws_short g.P.Pen.laws _ _ (line_head c.args.mode (answer_of c.args.v c.args.trace.now)) c.from_residual.ensures.0 c.in_err-mode_word.ensures

pub returns-in_err-verdict : goal.returns-in_err-verdict
returns-in_err-verdict g c =
    let e = line_parts c.args.mode (answer_of c.args.v c.args.trace.now) in
    draws_short_then g.P.Pen.laws _ _ e c.from_residual-in_err-verdict.ensures.0 c.in_ok-mode_word.ensures.ok c.in_err-verdict.ensures

pub returns : goal.returns
returns g c =
    let e = line_parts c.args.mode (answer_of c.args.v c.args.trace.now) in
    draws_then g.P.Pen.laws _ e (took_then g.P.Pen.laws refl c.in_ok-mode_word.ensures.ok c.in_ok-verdict.ensures.ok) c.byte.ensures
