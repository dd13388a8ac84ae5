use Prim.Native.Nat.{◌-◌, ◌≤◌}
use Rattle.tables.proofs.Seeking.{Lower}
use Rattle.tables.proofs.state.seek.Given as goal

abbrev pub invariant-loop-k : goal.invariant-loop-k
invariant-loop-k l = (l.i ≤ l.k) × ((l.k ≤ l.m) × Lower l.ms l.i l.s l.k)

abbrev pub decreases-loop-k : goal.decreases-loop-k
decreases-loop-k l = l.m - l.k
