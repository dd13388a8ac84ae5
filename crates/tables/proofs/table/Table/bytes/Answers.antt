use Rattle.std.proofs.Common.{rules}
use Rattle.tables.proofs.table.Table.bytes.Goals as goal

pub returns : goal.returns
returns c = record { bytes = c.self.view_is; good = search rules }
