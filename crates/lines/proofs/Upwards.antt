-- The members of a set as a list: exactly its members, each once, upwards.
use Prim.Native.Nat.{ℕ, zero, suc, ◌^◌, ◌<◌}
use mathlib.Core.Path.{◌≡◌, refl, sym, ap, subst, ◌∙◌}
use mathlib.Core.Logic.{◌⊎◌, inl, inr, ⊎_elim, ◌↔◌}
use mathlib.Core.Bool.{Bool, true, false}
use mathlib.Core.List.Memᴰ
use mathlib.Core.List.{
  List,
  [],
  ◌∷◌,
  ◌++◌,
  append-nil,
  Memᴰ,
}
use native.Mathlib.Omega.{arith}
use native.Mathlib.Decide.{dec_lt}
use lib.ListN.{length, get_or, length-append, get_or-append}
use lib.Seq.{get_or-append_seam}
use borrow.Author.Tests.{eqb-true, eq-eqb}
use Rattle.sets.specs.Sets.{bit, Has, has}
use Rattle.sets.proofs.Laws.{has-below}
use Rattle.lines.specs.Report.{below, members}

either : (b : Bool) → (b ≡ true) ⊎ (b ≡ false)
either true = inl refl
either false = inr refl

module _ (k s : ℕ) where
  with_one : has s k ≡ true → below (suc k) s ≡ below k s ++ (k ∷ [])
  unfolding below
  with_one e = rw e

  without : has s k ≡ false → below (suc k) s ≡ below k s
  unfolding below
  without e = rw e (append-nil (below k s))

-- what stands there is a member
of_below : (k s x : ℕ) → Memᴰ x (below k s) → Has s x
unfolding below
of_below zero s x m = absurd (Memᴰ.not-nil m)
of_below (suc k) s x m = go (either (has s k)) (of_below k s x)
  where
    go : (has s k ≡ true) ⊎ (has s k ≡ false) → (Memᴰ x (below k s) → Has s x) → Has s x
    go (inl e) f =
        ⊎_elim
        f
        (λ h. ap (bit s) (Memᴰ.eq_of_singleton h) ∙ eqb-true (bit s k) 1 e)
        (Memᴰ.append_cases (below k s) (subst (Memᴰ x) (with_one k s e) m))
    go (inr e) f = f (subst (Memᴰ x) (without k s e) m)

-- every member below the bound stands there
in_below : (k s x : ℕ) → x < k → Has s x → Memᴰ x (below k s)
in_below zero s x l h = absurd (omega arith)
in_below (suc k) s x l h = go (dec_lt x k) (either (has s k)) (λ (j : x < k). in_below k s x j h)
  where
    go : Dec (x < k) → (has s k ≡ true) ⊎ (has s k ≡ false) → (x < k → Memᴰ x (below k s)) → Memᴰ x (below (suc k) s)
    go (yes j) (inl e) f = subst (Memᴰ x) (sym (with_one k s e)) (Memᴰ.append_left (k ∷ []) (f j))
    go (yes j) (inr e) f = subst (Memᴰ x) (sym (without k s e)) (f j)
    go (no n) d f =
        let e : x ≡ k = omega arith in
        let b : has s k ≡ true = eq-eqb (bit s k) 1 (sym (ap (bit s) e) ∙ h) in
        subst (Memᴰ x) (sym (with_one k s b)) (Memᴰ.append_right (below k s) (Memᴰ.head e))

pub members_are : (s x : ℕ) → s < 2 ^ 64 → Memᴰ x (members s) ↔ Has s x
members_are s x h = (of_below 64 s x, λ i. in_below 64 s x (has-below 64 s x h i) i)

abbrev Low : ℕ → List ℕ → Type 0
Low k l = (i : ℕ) → i < length l → get_or l i 0 < k

abbrev Rises : List ℕ → Type 0
Rises l = (i j : ℕ) → i < j → j < length l → get_or l i 0 < get_or l j 0

-- one higher number more, at the end
module _ (k : ℕ) (l : List ℕ) (low : Low k l) where
  last : (j : ℕ) → j < length (l ++ (k ∷ [])) → (j < length l) ⊎ (j ≡ length l)
  last j h = go (dec_lt j (length l))
    where
      go : Dec (j < length l) → (j < length l) ⊎ (j ≡ length l)
      go (yes d) = inl d
      go (no n) = inr (omega (arith, length-append l (k ∷ [])))

  old : (i : ℕ) → i < length l → get_or (l ++ (k ∷ [])) i 0 ≡ get_or l i 0
  old i h = get_or-append l (k ∷ []) 0 i h

  new : (i : ℕ) → i ≡ length l → get_or (l ++ (k ∷ [])) i 0 ≡ k
  new i e = ap (λ (n : ℕ). get_or (l ++ (k ∷ [])) n 0) e ∙ get_or-append_seam l k [] 0

  low_more : Low (suc k) (l ++ (k ∷ []))
  low_more i h = ⊎_elim (λ d. omega (arith, old i d, low i d)) (λ e. omega (arith, new i e)) (last i h)

  rises_more : Rises l → Rises (l ++ (k ∷ []))
  rises_more r i j h n =
      ⊎_elim
      (λ d. omega (arith, old i (omega arith), old j d, r i j h d))
      (λ e. let d : i < length l = omega arith in omega (arith, old i d, new j e, low i d))
      (last j n)

low_below : (k s : ℕ) → Low k (below k s)
unfolding below
low_below zero s = λ i h. absurd (omega arith)
low_below (suc k) s = go (either (has s k)) (low_below k s)
  where
    go : (has s k ≡ true) ⊎ (has s k ≡ false) → Low k (below k s) → Low (suc k) (below (suc k) s)
    go (inl e) f = subst (Low (suc k)) (sym (with_one k s e)) (low_more k (below k s) f)
    go (inr e) f = subst (Low (suc k)) (sym (without k s e)) (λ i h. omega (arith, f i h))

rises_below : (k s : ℕ) → Rises (below k s)
unfolding below
rises_below zero s = λ i j h n. absurd (omega arith)
rises_below (suc k) s = go (either (has s k)) (rises_below k s)
  where
    go : (has s k ≡ true) ⊎ (has s k ≡ false) → Rises (below k s) → Rises (below (suc k) s)
    go (inl e) f = subst Rises (sym (with_one k s e)) (rises_more k (below k s) (low_below k s) f)
    go (inr e) f = subst Rises (sym (without k s e)) f

pub members_upwards : (s i j : ℕ) → i < j → j < length (members s) → get_or (members s) i 0 < get_or (members s) j 0
members_upwards s = rises_below 64 s
