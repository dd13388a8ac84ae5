use Rattle.tables.proofs.PartOf.{part_is}
use Rattle.tables.proofs.state.part_of.Goals as goal

pub returns : goal.returns
returns c = part_is _ _ _ _ _ c.requires.1.1 c.seek-i.ensures c.seek-k.ensures
