use mathlib.Core.Path.{◌≡◌}
use Rattle.tables.specs.Putting.{move_bytes, into}
use Rattle.watchdog.specs.Rows.{node_moves}
use Rattle.watchdog.proofs.put.Watched.put_moves.Given as goal

abbrev pub invariant-loop-i : goal.invariant-loop-i
invariant-loop-i l = l.ms ≡ into 0 (move_bytes (node_moves l.self.next l.self.count l.self.events l.i)) l.initial.ms
