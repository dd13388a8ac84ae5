-- Assume and guarantee, after source 003, section 3.1, without its hiding and with one shared set: what is checked of a
-- part against an assumption may be used where the assumption stands in for the part.
use mathlib.Core.Bool.{Bool}
use Prim.Native.Nat.{ℕ}
use Rattle.csp.specs.Lts.{Lts}
use Rattle.csp.specs.Pass.{Passes}
use Rattle.csp.specs.Join.{join}
use Rattle.csp.proofs.Passing.{Clear, passes_trans}
use Rattle.csp.proofs.Joining.{passes_join}

pub assume_guarantee :
    (m : ℕ) (M₁ M₂ A P : Lts) (X : ℕ → Bool) → Clear M₁ → Passes m M₁ A → Passes m (join A M₂ X) P →
    Passes m (join M₁ M₂ X) P
assume_guarantee m M₁ M₂ A P X clear a g =
    passes_trans m (join M₁ M₂ X) (join A M₂ X) P (passes_join m M₁ A M₂ X clear a) g
