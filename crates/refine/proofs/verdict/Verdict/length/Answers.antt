use Prim.Native.Nat.{ℕ}
use mathlib.Core.Logic.{◌⊎◌, inl, inr}
use mathlib.Core.Path.{◌≡◌, ap, sym}
use Rattle.refine.specs.Verdicts.{length_of}
use Rattle.refine.specs.declared.verdict.Verdict.{Verdict}
use Rattle.refine.specs.declared.verdict.Verdict.TheVariants.{TraceFault, RefusalFault}
use Rattle.refine.proofs.verdict.Verdict.length.Goals as goal

of_fault : (v : Verdict) (l : ℕ) → (v ≡ TraceFault l) ⊎ ((o : ℕ) × (v ≡ RefusalFault l o)) → l ≡ length_of v
of_fault v l (inl e) = sym (ap length_of e)
of_fault v l (inr p) = sym (ap length_of p.1)

pub returns-in-TraceFault : goal.returns-in-TraceFault
returns-in-TraceFault c = of_fault _ _ c.in-TraceFault.is
