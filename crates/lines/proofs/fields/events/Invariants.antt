use Rattle.std.proofs.Common.{◌≤◌, length, take}
use Rattle.lines.specs.Report.{events}
use Rattle.lines.specs.Pen.{led}
use Rattle.lines.proofs.fields.events.Given as goal

abbrev pub invariant-loop-event : goal.invariant-loop-event
invariant-loop-event g l =
    (l.event-index ≤ length l.s) × g.P.Pen.took l.initial.pen (led (events (take l.event-index l.s))) l.pen
