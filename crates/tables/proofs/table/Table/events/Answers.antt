use Rattle.tables.proofs.table.Table.events.Goals as goal

pub returns : goal.returns
returns c = record { events = c.number.ensures.number; good = c.number.ensures.good }
