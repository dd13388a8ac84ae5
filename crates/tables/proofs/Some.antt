-- Laws of "or" and `some`: what holds of none.
use Prim.Native.Nat.{ℕ, zero, suc, ◌<◌, ◌≤◌, ◌+◌}
use mathlib.Core.Bool.{Bool, true, false, ◌||◌}
use mathlib.Core.Path.{◌≡◌, refl, sym, ap, ap₂, ◌∙◌}
use mathlib.Core.Logic.{⊎_elim}
use native.Mathlib.Omega.{arith}
use native.Mathlib.Numerals.{add-one}
use native.Mathlib.Nat.{eq-or-lt_of_le}
use Rattle.tables.specs.Tests.{some}

pub or_false : (a b : Bool) → (a || b) ≡ false → (a ≡ false) × (b ≡ false)
or_false true b e = absurd (let z : ◌≡◌ {A = ℕ} 0 1 = cc in omega arith)
or_false false b e = (refl, e)

or-true : (a b : Bool) → b ≡ true → (a || b) ≡ true
or-true true b e = refl
or-true false b e = e

-- where it holds of none, it does not hold of one
pub some-none : (f : ℕ → Bool) (n i : ℕ) → some f n ≡ false → i < n → f i ≡ false
unfolding some
some-none f zero i h l = absurd (omega arith)
some-none f (suc n) i h l =
    let p = or_false (some f n) (f n) h in
    let le : i ≤ n = omega arith in
    ⊎_elim (λ e. ap f e ∙ p.1) (λ k. some-none f n i p.0 k) (eq-or-lt_of_le le)

-- and back
pub some_false : (f : ℕ → Bool) (n : ℕ) → ((i : ℕ) → i < n → f i ≡ false) → some f n ≡ false
unfolding some
some_false f zero h = refl
some_false f (suc n) h = simp (some_false f n (λ i l. h i (omega arith)), h n (omega arith))

-- where it holds of one, it holds of some
pub some_here : (f : ℕ → Bool) (n i : ℕ) → i < n → f i ≡ true → some f n ≡ true
unfolding some
some_here f zero i l h = absurd (omega arith)
some_here f (suc n) i l h =
    let le : i ≤ n = omega arith in
    ⊎_elim (λ e. or-true (some f n) (f n) (ap f (sym e) ∙ h)) (λ k. simp (some_here f n i k h)) (eq-or-lt_of_le le)

-- one number more
pub some_more : (f : ℕ → Bool) (n : ℕ) {d t r : Bool} → d ≡ some f n → t ≡ f n → r ≡ (d || t) → r ≡ some f (n + 1)
unfolding some
some_more f n e h k = rw add-one (k ∙ ap₂ ◌||◌ e h)

-- one number more, of which it does not hold
pub some_next : (f : ℕ → Bool) (n : ℕ) → some f n ≡ false → f n ≡ false → some f (n + 1) ≡ false
unfolding some
some_next f n h k = rw add-one (simp (h, k))

-- of none of fewer numbers
pub some_fewer : (f : ℕ → Bool) {m : ℕ} (n : ℕ) → some f n ≡ false → m ≤ n → some f m ≡ false
some_fewer f n h l = some_false f _ (λ i k. some-none f n i h (omega arith))
