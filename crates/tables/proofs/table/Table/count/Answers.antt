use Rattle.tables.proofs.table.Table.count.Goals as goal

pub returns : goal.returns
returns c = record { count = c.number.ensures.number; good = c.number.ensures.good }
