use Rattle.tables.proofs.table.Table.states.Goals as goal

pub returns : goal.returns
returns c = record { states = c.number.ensures.number; good = c.number.ensures.good }
