use Rattle.lines.specs.Report.{below, events}
use Rattle.lines.specs.Pen.{led}
use Rattle.lines.proofs.offers.members.Given as goal

abbrev pub invariant-loop-x : goal.invariant-loop-x
invariant-loop-x g l = g.P.Pen.took l.initial.pen (led (events (below l.x l.set))) l.pen
