use Prim.Native.Nat.{ℕ, ◌<◌}
use mathlib.Core.Path.{◌≡◌, sym, subst}
use mathlib.Core.Logic.{◌⊎◌, inl, inr, ⊎_elim}
use native.Mathlib.Omega.{arith}
use native.Mathlib.Decide.{ℕ_discrete}
use Rattle.sets.specs.Sets.{Has, Holds, WithOne}
use Rattle.tables.proofs.offers.with_visible.Goals as goal

silent : (a e : ℕ) → e ≡ 0 → Holds Has a (λ x. Has a x ⊎ ((0 < x) × (x ≡ e)))
silent a e z = record { all = λ x h. ⊎_elim (λ g. g) (λ g. absurd (omega arith)) h; only = λ x h. inl h }

visible : (a e r : ℕ) → 0 < e → WithOne a e r → Holds Has r (λ x. Has a x ⊎ ((0 < x) × (x ≡ e)))
visible a e r z w = record {
  all = λ x h. ⊎_elim (λ g. w.old x g) (λ g. subst (λ (y : ℕ). Has r y) (sym g.1) w.one) h;
  only = λ x h. pick x h (ℕ_discrete x e);
}
  where
    pick : (x : ℕ) → Has r x → Dec (x ≡ e) → Has a x ⊎ ((0 < x) × (x ≡ e))
    pick x h (yes p) = inr (omega arith, p)
    pick x h (no n) = inl (w.only x n h)

pub returns-then-e-eq0 : goal.returns-then-e-eq0
returns-then-e-eq0 c = silent _ _ c.if-e-eq0.true

pub returns : goal.returns
returns c = visible _ c.args.e _ (omega arith) c.with.ensures
