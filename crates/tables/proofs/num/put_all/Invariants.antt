use Prim.Native.Nat.{◌*◌}
use mathlib.Core.List.{◌++◌}
use mathlib.Core.Path.{◌≡◌}
use lib.ListN.{take, drop}
use Rattle.tables.specs.Numbers.{bytes}
use Rattle.tables.proofs.num.put_all.Given as goal

abbrev pub invariant-loop-i : goal.invariant-loop-i
invariant-loop-i l = l.t ≡ bytes (take l.i l.list) ++ drop (2 * l.i) l.initial.t
