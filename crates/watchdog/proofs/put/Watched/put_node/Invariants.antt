use mathlib.Core.Path.{◌≡◌}
use Rattle.tables.specs.Bytes.{row}
use Rattle.tables.specs.Putting.{move_bytes, into}
use Rattle.watchdog.specs.Rows.{node_move}
use Rattle.watchdog.proofs.put.Watched.put_node.Given as goal

abbrev pub invariant-loop-d : goal.invariant-loop-d
invariant-loop-d l = l.ms ≡ into l.at (move_bytes (row (node_move l.form.next l.form.count l.i) l.d)) l.initial.ms
