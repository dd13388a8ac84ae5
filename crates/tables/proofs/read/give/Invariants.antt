use mathlib.Core.List.{◌++◌}
use mathlib.Core.Path.{◌≡◌}
use lib.ListN.{take, drop}
use Rattle.tables.specs.Numbers.{numbers}
use Rattle.tables.proofs.read.give.Given as goal

abbrev pub invariant-loop-i : goal.invariant-loop-i
invariant-loop-i l = l.list ≡ take l.i (numbers l.ms) ++ drop l.i l.initial.list
