use Rattle.sets.specs.Sets.{Has, Holds}
use Rattle.tables.specs.Moves.{move_at}
use Rattle.tables.specs.Bytes.{row}
use Rattle.tables.specs.Offers.{Visible}
use Rattle.tables.proofs.offers.offers_of.Given as goal

abbrev pub invariant-loop-j : goal.invariant-loop-j
invariant-loop-j l = Holds Has l.set (Visible (row (move_at l.part) l.j))
