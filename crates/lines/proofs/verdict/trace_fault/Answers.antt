use Rattle.lines.specs.Text.{letters}
use Rattle.lines.proofs.Drawing.{draws_then, draws_short}
use Rattle.lines.proofs.Led.{led-word}
use Rattle.lines.proofs.verdict.trace_fault.Goals as goal

pub returns-in_err-next_word : goal.returns-in_err-next_word
unfolding letters
returns-in_err-next_word g c =
    draws_short g.P.Pen.laws _ _ (led-word "trace-fault" _) c.from_residual.ensures.0 c.in_err-next_word.ensures

pub returns : goal.returns
unfolding letters
returns g c = draws_then g.P.Pen.laws _ (led-word "trace-fault" _) c.in_ok-next_word.ensures.ok c.traced.ensures
