use Rattle.tables.specs.State.{moves_of}
use Rattle.tables.proofs.state.moves_of.Goals as goal

pub returns-in_default : goal.returns-in_default
unfolding moves_of
returns-in_default c = simp c.in_default.ensures.err.first

pub returns : goal.returns
returns c = rw (c.moves_of.ensures.part, c.in-Ok.ensures.ok.bytes, c.from.ensures)
