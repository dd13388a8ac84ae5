use Prim.Native.Nat.{ℕ, ◌/◌}
use mathlib.Core.List.{List, ◌++◌}
use mathlib.Core.Path.{◌≡◌, sym, ap, ◌∙◌}
use native.Mathlib.Omega.{arith}
use lib.Seq.{take_all}
use lib.ListN.{take, drop, length}
use Rattle.tables.proofs.Coded.{copy_next, length-numbers, number_at}
use Rattle.tables.specs.Numbers.{numbers}
use Rattle.tables.proofs.read.give.Goals as goal

pub loop-i-preserved : goal.loop-i-preserved
loop-i-preserved c = let s = c.args.ms.now in
    let i = c.loop-i.i in
    let n = length-numbers s in
    copy_next (numbers s) c.args.list.now _ i _ (omega arith) (omega arith) (c.get16.ensures ∙ sym (number_at s i (omega arith))) c.loop-i.invariant

pub returns : goal.returns
returns c = let a = c.args in
    let e : c.loop-i.i ≡ length a.ms.now / 2 = omega arith in c.loop-i.invariant
    ∙ ap (λ (n : ℕ). take n (numbers a.ms.now) ++ drop n a.list.now) e
    ∙ ap (λ (x : List ℕ). x ++ drop (length a.ms.now / 2) a.list.now) (take_all (length a.ms.now / 2) (numbers a.ms.now) (omega (arith, length-numbers a.ms.now)))
