use Prim.Native.Nat.{◌+◌}
use native.Mathlib.Omega.{arith}
use Rattle.tables.specs.Moves.{move_at}
use Rattle.tables.proofs.Seeking.{seeks_here, seeks_on, lower_more}
use Rattle.tables.proofs.state.seek.Goals as goal

pub returns-then-get-s : goal.returns-then-get-s
unfolding move_at
returns-then-get-s c = let inv = c.loop-k.invariant in
    seeks_on _ _ _ _ _ _ inv.0 inv.1.1 (seeks_here _ _ _ _ inv.1.0 (omega (arith, c.get.ensures.0)))

pub returns-then-get-s-2 : goal.returns-then-get-s-2
unfolding move_at
returns-then-get-s-2 c = let a = c.args in
    let inv = c.loop-k.invariant in
    let k = c.loop-k.k in
    let L = lower_more a.ms.now a.i a.s k inv.1.1 (omega (arith, c.get.ensures.0)) in
    seeks_on _ _ _ _ _ _ (omega arith) L (seeks_here _ _ _ _ (omega arith) (omega (arith, c.get-in-loop-k.ensures.0)))

pub loop-k-preserved : goal.loop-k-preserved
unfolding move_at
loop-k-preserved c = let a = c.args in
    let inv = c.loop-k.invariant in
    let k = c.loop-k.k in
    let L = lower_more a.ms.now a.i a.s k inv.1.1 (omega (arith, c.get.ensures.0)) in
    let M = lower_more a.ms.now a.i a.s (k + 1) L (omega (arith, c.get-in-loop-k.ensures.0)) in
    (omega arith, (omega arith, λ j a b. M j (omega arith) b))

pub returns : goal.returns
returns c = let inv = c.loop-k.invariant in
    seeks_on _ _ _ _ _ _ inv.0 inv.1.1 c.seek_last.ensures
