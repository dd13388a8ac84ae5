-- The list of the pairs below bounds that have a decided property; and the least, in the order of offers.
use mathlib.Core.Path.{◌≡◌, sym, subst, subst₂}
use mathlib.Core.Logic.{◌⊎◌, inl, inr}
use mathlib.Core.List.{List, [], ◌∷◌}
use Prim.Native.Nat.{ℕ, zero, suc, ◌<◌}
use native.Mathlib.Omega.{arith}
use native.Mathlib.Decide.{ℕ_discrete}
use Rattle.sets.specs.Least.{NoHigher}
use Rattle.sets.proofs.Laws.{no_higher_refl, no_higher_trans, no_higher_total}
use Rattle.csp.specs.Numbered.{At, head, tail, Stands, Once, Before, lower, level}
use Rattle.csp.proofs.Places.{at_below}
use Rattle.csp.proofs.Numbering.{before_not_back}
use Rattle.csp.proofs.Finding.{before_suc, before_grow, before_row, before_end}
use Rattle.csp.proofs.Testing.{once_cons, at_pick}

-- the pairs before (i, q) that have P
pub record Collected (n : ℕ) (P : ℕ → ℕ → Type 0) (i q : ℕ) (l : List (ℕ × ℕ)) : Type 0 where
  pub once : Once l
  pub sound : (k : ℕ) (p : ℕ × ℕ) → At l k p → P p.0 p.1 × Before p.0 p.1 i q
  pub whole : (j r : ℕ) → r < n → Before j r i q → P j r → Stands l (j, r)

abbrev pub Collection : ℕ → (ℕ → ℕ → Type 0) → ℕ → ℕ → Type 0
Collection n P i q = (l : List (ℕ × ℕ)) × Collected n P i q l

module _ (n : ℕ) (P : ℕ → ℕ → Type 0) (d : (i q : ℕ) → Dec (P i q)) where
  never : {j r : ℕ} → Before j r 0 0 → ⊥
  never (lower h) = omega arith
  never (level h) = omega arith

  start : Collection n P 0 0
  start = (
    [],
    record {
      once = λ i j a h. absurd (omega (arith, at_below h));
      sound = λ k p h. absurd (omega (arith, at_below h));
      whole = λ j r h b. absurd (never b);
    },
  )

  up : (i q : ℕ) → Before i q i (suc q)
  up i q = let h : q < suc q = omega arith in level h

  one : (i q : ℕ) → Collection n P i q → Dec (P i q) → Collection n P i (suc q)
  one i q c (no z) = (
    c.0,
    record {
      once = c.1.once;
      sound = λ k p h. let g = c.1.sound k p h in (g.0, before_grow g.1);
      whole = λ j r h b p. go j r h p (before_suc b);
    },
  )
    where
      go : (j r : ℕ) → r < n → P j r → Before j r i q ⊎ ((j ≡ i) × (r ≡ q)) → Stands c.0 (j, r)
      go j r h p (inl b) = c.1.whole j r h b p
      go j r h p (inr e) = absurd (z (subst₂ P e.0 e.1 p))
  one i q c (yes y) = (
    (i, q) ∷ c.0,
    record {
      once = once_cons (λ k h. let b = (c.1.sound k (i, q) h).1 in before_not_back b b) c.1.once;
      sound =
          at_pick
          (λ p. P p.0 p.1 × Before p.0 p.1 i (suc q))
          (i, q)
          c.0
          (y, up i q)
          (λ k p h. let g = c.1.sound k p h in (g.0, before_grow g.1));
      whole = λ j r h b p. go j r h p (before_suc b);
    },
  )
    where
      go : (j r : ℕ) → r < n → P j r → Before j r i q ⊎ ((j ≡ i) × (r ≡ q)) → Stands ((i, q) ∷ c.0) (j, r)
      go j r h p (inl b) = let g = c.1.whole j r h b p in record { place = suc g.place; at = tail g.at }
      go j r h p (inr e) =
          record { place = 0; at = subst₂ (λ (x y : ℕ). At ((i, q) ∷ c.0) 0 (x, y)) (sym e.0) (sym e.1) head }

  row : (i q : ℕ) → Collection n P i 0 → Collection n P i q
  row i zero c = c
  row i (suc q) c = one i q (row i q c) (d i q)

  turn : (i : ℕ) → Collection n P i n → Collection n P (suc i) 0
  turn i c = (
    c.0,
    record {
      once = c.1.once;
      sound = λ k p h. let g = c.1.sound k p h in (g.0, before_row g.1);
      whole = λ j r h b p. c.1.whole j r h (before_end b h) p;
    },
  )

  pub collect : (i : ℕ) → Collection n P i 0
  collect zero = start
  collect (suc i) = turn i (row i n (collect i))

-- the one with the least offers, given by f, of those below n that have P
pub record Lowest (n : ℕ) (P : ℕ → Type 0) (f : ℕ → ℕ) : Type 0 where
  pub at : ℕ
  pub has : P at
  pub least : (r : ℕ) → r < n → P r → NoHigher (f at) (f r)

pub lowest : (n : ℕ) (P : ℕ → Type 0) (f : ℕ → ℕ) → ((q : ℕ) → Dec (P q)) → Lowest n P f ⊎ ((r : ℕ) → r < n → P r → ⊥)
lowest zero P f d = inr (λ r h. absurd (omega arith))
lowest (suc n) P f d = go (lowest n P f d) (d n)
  where
    split : (Q : ℕ → Type 0) → Q n → ((r : ℕ) → r < n → Q r) → (r : ℕ) → r < suc n → Q r
    split Q q g r h = at (ℕ_discrete r n)
      where
        at : Dec (r ≡ n) → Q r
        at (yes e) = subst Q (sym e) q
        at (no k) = g r (omega arith)

    go :
        Lowest n P f ⊎ ((r : ℕ) → r < n → P r → ⊥) → Dec (P n) → Lowest (suc n) P f ⊎ ((r : ℕ) → r < suc n → P r → ⊥)
    go (inr z) (no k) = inr (split (λ r. P r → ⊥) k z)
    go (inr z) (yes p) =
        inl (record {
          at = n;
          has = p;
          least = split (λ r. P r → NoHigher (f n) (f r)) (λ _. no_higher_refl (f n)) (λ r h q. absurd (z r h q));
        })
    go (inl l) (no k) =
        inl (record {
          at = l.at;
          has = l.has;
          least = split (λ r. P r → NoHigher (f l.at) (f r)) (λ p. absurd (k p)) l.least;
        })
    go (inl l) (yes p) = pick (no_higher_total (f l.at) (f n))
      where
        pick :
            NoHigher (f l.at) (f n) ⊎ NoHigher (f n) (f l.at) → Lowest (suc n) P f ⊎ ((r : ℕ) → r < suc n → P r → ⊥)
        pick (inr h) =
            inl (record {
              at = n;
              has = p;
              least =
                  split
                  (λ r. P r → NoHigher (f n) (f r))
                  (λ _. no_higher_refl (f n))
                  (λ r b q. no_higher_trans (f n) (f l.at) (f r) h (l.least r b q));
            })
        pick (inl h) =
            inl (record {
              at = l.at;
              has = l.has;
              least = split (λ r. P r → NoHigher (f l.at) (f r)) (λ _. h) l.least;
            })
