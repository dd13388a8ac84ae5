use Rattle.tables.proofs.table.Table.start.Goals as goal

pub returns : goal.returns
returns c = record { start = c.number.ensures.number; good = c.number.ensures.good }
