use Rattle.tables.proofs.table.Table.known.Goals as goal

pub invariant_of-result : goal.invariant_of-result
invariant_of-result c = c.requires
