use Rattle.lines.proofs.Drawing.{draws_then, draws_short}
use Rattle.lines.proofs.Led.{led-number}
use Rattle.lines.proofs.fields.next_number.Goals as goal

pub returns-in_err-byte : goal.returns-in_err-byte
returns-in_err-byte g c = draws_short g.P.Pen.laws _ _ (led-number _) c.from_residual.ensures.0 c.in_err-byte.ensures

pub returns : goal.returns
returns g c = draws_then g.P.Pen.laws _ (led-number _) c.in_ok-byte.ensures.ok c.number.ensures
