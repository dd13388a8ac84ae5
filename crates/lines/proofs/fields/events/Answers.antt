use native.Mathlib.Omega.{arith}
use Rattle.lines.proofs.Drawing.{took_none, took_then, draws_short_then}
use Rattle.lines.proofs.Led.{led-none, led-next, led-rest}
use Rattle.lines.proofs.fields.events.Goals as goal

pub loop-event-init : goal.loop-event-init
loop-event-init g c = (omega arith, took_none g.P.Pen.laws _ led-none)

pub loop-event-preserved : goal.loop-event-preserved
loop-event-preserved g c = (
  omega arith,
  took_then g.P.Pen.laws (led-next _ _ c.loop-event-test.true) c.loop-event.invariant.1
      (rw c.from.ensures at c.in_ok-next_number.ensures.ok),
)

pub returns-in_err-next_number : goal.returns-in_err-next_number
returns-in_err-next_number g c =
    draws_short_then g.P.Pen.laws _ _ (led-rest _ _ c.loop-event-test.true) c.from_residual.ensures.0 c.loop-event.invariant.1
    (rw c.from.ensures at c.in_err-next_number.ensures)
