use Prim.Native.Nat.{ℕ, ◌*◌}
use mathlib.Core.List.{List, ◌++◌}
use mathlib.Core.Path.{◌≡◌, ap, ◌∙◌}
use native.Mathlib.Omega.{arith}
use lib.ListN.{take, drop, length}
use lib.Seq.{take-length}
use Rattle.tables.specs.Numbers.{bytes}
use Rattle.tables.proofs.Coded.{put_next}
use Rattle.tables.proofs.num.put_all.Goals as goal

-- at the end all numbers are put; the check finds this without an answer, and it stands here for what fails where some are not
pub returns : goal.returns
returns c = let a = c.args in
    let e : c.loop-i.i ≡ length a.list.now = omega arith in
    c.loop-i.invariant
    ∙ ap (λ (n : ℕ). bytes (take n a.list.now) ++ drop (2 * n) a.t.now) e
    ∙ ap (λ (x : List ℕ). bytes x ++ drop (2 * length a.list.now) a.t.now) (take-length a.list.now)

pub loop-i-preserved : goal.loop-i-preserved
loop-i-preserved c = put_next _ _ _ c.loop-i.i _ _ (omega arith) (omega arith)
    (rw c.to_le_bytes.ensures (omega arith))
    (rw c.to_le_bytes.ensures (omega (arith, c.type_inv.list c.loop-i.i)))
    c.loop-i.invariant
