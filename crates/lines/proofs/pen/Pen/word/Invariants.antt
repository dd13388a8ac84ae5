use Rattle.std.proofs.Common.{◌≤◌, length, take}
use Rattle.lines.proofs.pen.Pen.word.Given as goal

abbrev pub invariant-loop-b : goal.invariant-loop-b
invariant-loop-b g l = (l.b-index ≤ length l.text) × g.Self.Pen.took l.initial.self (take l.b-index l.text) l.self
