-- The offers and the stability that a part shows are those of its state.
use Rattle.std.specs.Prelude.{None}
use Prim.Native.Nat.{ℕ, zero, suc, ◌<◌, ◌+◌}
use mathlib.Core.Bool.{Bool, true, false, not}
use mathlib.Core.Path.{◌≡◌, refl, sym, ap, ◌∙◌, subst}
use mathlib.Core.Logic.{◌⊎◌, inl, inr, ⊎_elim, ◌↔◌}
use mathlib.Core.List.Memᴰ
use mathlib.Core.List.{List, [], ◌∷◌, ◌++◌, Memᴰ}
use native.Mathlib.Omega.{arith}
use native.Mathlib.Numerals.{add-one}
use native.Mathlib.Nat.{zero-add}
use lib.ListN.{get_or}
use lib.Dec.{eqb}
use borrow.Author.Tests.{eq-eqb, ne_eqb}
use Rattle.std.specs.List.{list_all, range_with_len}
use Rattle.std.proofs.lemmas.List.FromFn.{length-range_with_len, get_or-range_with_len}
use Rattle.std.proofs.lemmas.List.Folds.{list_all_at}
use Rattle.sets.specs.Sets.{Has, Holds}
use Rattle.sets.proofs.Laws.{none_in_zero}
use Rattle.csp.specs.Lts.{Offers, Stable}
use Rattle.csp.specs.Table.{Move, move, lts}
use Rattle.tables.specs.Bytes.{row, table_of, moves_in}
use Rattle.tables.specs.Valid.{refusal}
use Rattle.tables.specs.State.{moves_of}
use Rattle.tables.specs.Offers.{Visible, Still, SmallEvents}
use Rattle.tables.proofs.Rows.{same_move, in_row, of_row}
use Rattle.tables.proofs.Proper.{proper}
use Rattle.tables.proofs.PartMoves.{part_sound, part_all}

module _ (at : ℕ → Move) where
  pub visible_none : Holds Has 0 (Visible (row at 0))
  unfolding row
  visible_none = record { all = λ x h. absurd (Memᴰ.not-nil h.among); only = λ x h. absurd (none_in_zero x h) }

  -- one move more
  pub visible_next : (i e a b : ℕ) → e ≡ (at i).event → Holds Has a (Visible (row at i)) →
      Holds Has b (λ x. Has a x ⊎ ((0 < x) × (x ≡ e))) → Holds Has b (Visible (row at (i + 1)))
  unfolding row
  visible_next i e a b f h k = rw (add-one i) (record { all = λ x v. k.all x (up x v); only = λ x g. down x (k.only x g) })
    where
      up : (x : ℕ) → Visible (row at i ++ (at i ∷ [])) x → Has a x ⊎ ((0 < x) × (x ≡ e))
      up x v =
          ⊎_elim
          (λ j. inl (h.all x (record { seen = v.seen; one = v.one; among = j; by = v.by })))
          (λ j. inr (v.seen, sym v.by ∙ ap (λ (w : Move). w.event) (Memᴰ.eq_of_singleton j) ∙ sym f))
          (Memᴰ.append_cases (row at i) v.among)

      down : (x : ℕ) → Has a x ⊎ ((0 < x) × (x ≡ e)) → Visible (row at i ++ (at i ∷ [])) x
      down x (inl g) = let v = h.only x g in record { seen = v.seen; one = v.one; among = Memᴰ.append_left (at i ∷ []) v.among; by = v.by }
      down x (inr g) = record { seen = g.0; one = at i; among = Memᴰ.append_right (row at i) (Memᴰ.head refl); by = sym f ∙ sym g.1 }

  -- none of the first m moves is silent
  pub still_row : (m : ℕ) → ((j : ℕ) → j < m → 0 < (at j).event) → Still (row at m)
  still_row m h v i z =
      let s = of_row at m v i in
      let e : (at s.number).event ≡ v.event = ap (λ (w : Move). w.event) s.is in
      let k = h s.number s.below in
      omega arith

  -- is_stable asks of each of the first m moves whether it is not silent
  unfoldable pub heard : ℕ → Bool
  heard j = not (eqb (at j).event 0)

  pub still_all : (m : ℕ) → list_all heard (range_with_len 0 m) ≡ true → Still (row at m)
  unfolding heard
  still_all m h v i z =
      let s = of_row at m v i in
      let e : (at s.number).event ≡ 0 = ap (λ (w : Move). w.event) s.is ∙ z in
      let k : get_or (range_with_len 0 m) s.number 0 ≡ s.number = get_or-range_with_len 0 m s.number 0 s.below ∙ zero-add s.number in
      let f : list_all heard (range_with_len 0 m) ≡ false =
      list_all_at heard (range_with_len 0 m) s.number 0 (omega (arith, length-range_with_len 0 m, s.below)) (ap heard k ∙ ap not (eq-eqb _ _ e)) in
      absurd (let w : ◌≡◌ {A = ℕ} 0 1 = cc in omega arith)

  all_in : (f : ℕ → Bool) (a n : ℕ) → ((j : ℕ) → j < n → f (a + j) ≡ true) → list_all f (range_with_len a n) ≡ true
  all_in f a zero h = refl
  all_in f a (suc n) h =
      let e : f a ≡ true = let d : a ≡ a + 0 = omega arith in ap f d ∙ h 0 (omega arith) in
      simp (e, all_in f (a + 1) n (λ j k. let d : a + 1 + j ≡ a + suc j = omega arith in ap f d ∙ h (suc j) (omega arith)))

  pub all_still : (m : ℕ) → Still (row at m) → list_all heard (range_with_len 0 m) ≡ true
  unfolding heard
  all_still m h = all_in heard 0 m (λ j k. ap heard (zero-add j) ∙ ap not (ne_eqb _ _ (λ z. h (at j) (in_row at m j k) z)))

module _ (t : List ℕ) (c : refusal t ≡ None) (s : ℕ) where
  from_part : (v : Move) → Memᴰ v (moves_in (moves_of t s)) → (lts (table_of t)).move s v.event v.to
  from_part v i =
      let p = part_sound t c s v i in
      let e : move s v.event v.to ≡ v = same_move (sym p.1) refl refl in
      Memᴰ.cast e p.0

  -- What offers_of finds in the part of s are the offers of s.
  pub offers_are : (r : ℕ) → Holds Has r (Visible (moves_in (moves_of t s))) → Holds Has r (Offers (lts (table_of t)) s)
  offers_are r h = record {
    all = λ e o. h.all e (record { seen = o.seen; one = move s e o.to; among = part_all t c s (move s e o.to) o.by refl; by = refl });
    only = λ e g.
        let v = h.only e g in
        record { seen = v.seen; to = v.one.to; by = subst (λ (x : ℕ). (lts (table_of t)).move s x v.one.to) v.by (from_part v.one v.among) };
  }

  -- What is_stable finds of the part of s is whether s is stable.
  pub still_stable : Still (moves_in (moves_of t s)) ↔ Stable (lts (table_of t)) s
  still_stable = (
    λ h y m. h (move s 0 y) (part_all t c s (move s 0 y) m refl) refl,
    λ h v i z. h v.to (subst (λ (x : ℕ). (lts (table_of t)).move s x v.to) z (from_part v i)),
  )

  -- the events in a part are small enough for offers_of
  pub small_events : SmallEvents (moves_in (moves_of t s))
  small_events v i =
      let p = proper t c in
      let e = p.fits.event_upto (from_part v i) in
      omega (arith, p.limits.events)
