use mathlib.Core.Path.{ap, ◌∙◌}
use lib.ListN.{drop}
use Rattle.std.proofs.Common.{rules}
use Rattle.tables.proofs.Parts.{tail_lent}
use Rattle.tables.proofs.table.Table.moves.Goals as goal

pub returns : goal.returns
returns c = record { part = tail_lent 12 _ ∙ ap (drop 12) c.self.view_is; good = search rules }
