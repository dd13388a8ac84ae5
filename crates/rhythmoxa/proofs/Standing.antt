-- Where the moves of a state stand: after the header and the moves of lower states.
use Prim.Native.Nat.{ℕ, zero, suc, ◌<◌, ◌≤◌, ◌+◌, ◌-◌, ◌*◌}
use mathlib.Core.Bool.{Bool, false}
use mathlib.Core.Path.{◌≡◌, refl, sym, ap, subst, ◌∙◌}
use mathlib.Core.Logic.{⊎_elim}
use mathlib.Core.List.{List, [], ◌∷◌}
use native.Mathlib.Omega.{arith}
use native.Mathlib.Nat.{add-suc, eq-or-lt_of_le, eq-zero-or-pos}
use lib.ListN.{length, take, drop, length-drop, length-take}
use lib.Seq.{length-take-le, drop-drop}
use borrow.Author.Tests.{lt-ltb, le-ltb}
use Rattle.tables.specs.Moves.{move_at}
use Rattle.tables.specs.Bytes.{count}
use Rattle.tables.specs.Valid.{disordered, refusal}
use Rattle.tables.specs.State.{unless_refused, of_state, moves_of}
use Rattle.tables.specs.Seek.{Seeks}
use Rattle.std.specs.Prelude.{Option, None, Some}
use Rattle.tables.proofs.Order.{rising}
use Rattle.tables.proofs.PartOf.{part_is}
use Rattle.tables.proofs.PartMoves.{part_bytes}
use Rattle.tables.proofs.Tested.{Good, good}
use Rattle.rhythmoxa.specs.declared.place.Part.{Part}
use Rattle.rhythmoxa.specs.Place.{one_more_if, below, unless_empty, begins, Placed}

below_all : (ms : List ℕ) (s k : ℕ) → ((j : ℕ) → j < k → (move_at ms j).from < s) → below ms s k ≡ k
unfolding below
below_all ms s zero h = refl
below_all ms s (suc k) h =
    let e : below ms s k ≡ k = below_all ms s k (λ j a. h j (omega arith)) in
    ap (λ (b : Bool). one_more_if b (below ms s k)) (lt-ltb _ _ (h k (omega arith))) ∙ omega arith

below_none :
    (ms : List ℕ) (s k d : ℕ) → ((j : ℕ) → k ≤ j → j < k + d → s ≤ (move_at ms j).from) → below ms s (k + d) ≡ below ms s k
unfolding below
below_none ms s k zero h = ap (below ms s) (let e : k + 0 ≡ k = omega arith in e)
below_none ms s k (suc d) h =
    ap (below ms s) (add-suc k d)
    ∙ ap (λ (b : Bool). one_more_if b (below ms s (k + d))) (le-ltb _ _ (h (k + d) (omega arith) (omega arith)))
    ∙ below_none ms s k d (λ j a b. h j a (omega arith))

module _ (ms : List ℕ) (m : ℕ) (ascending : disordered (move_at ms) m ≡ false) where
  -- where the search for a state stops, as many moves of lower states stand before
  below_is : (s i : ℕ) → Seeks ms m 0 s i → below ms s m ≡ i
  below_is s i p =
      ap (below ms s) (let e : m ≡ i + (m - i) = omega (arith, p.within) in e)
      ∙ below_none ms s i (m - i) (λ j a b.
      let g = p.stops (omega arith) in
      let r = rising (move_at ms) m ascending i j a (omega arith) in
      omega arith)
      ∙ below_all ms s i (λ j a. p.lower j a (omega arith))

  -- a search ends somewhere
  found : (s d i : ℕ) → i + d ≡ m → (k : ℕ) × Seeks ms m i s k
  found s zero i e =
      (i, record { from = omega arith; within = omega arith; lower = λ j a b. omega arith; stops = λ h. omega arith })
  found s (suc d) i e =
      ⊎_elim
      (λ h. (i, record { from = omega arith; within = omega arith; lower = λ j a b. omega arith; stops = λ g. omega arith }))
      (λ h. later (omega arith) (found s d (i + 1) (omega arith)))
      (eq-zero-or-pos (s - (move_at ms i).from))
    where
      later : (move_at ms i).from < s → (k : ℕ) × Seeks ms m (i + 1) s k → (k : ℕ) × Seeks ms m i s k
      later h (k, p) =
          (k, record { from = omega (arith, p.from); within = p.within; lower = λ j a b. lower j a b; stops = p.stops })
        where
          lower : (j : ℕ) → j < k → i ≤ j → (move_at ms j).from < s
          lower j a b =
              ⊎_elim (λ e. subst (λ (x : ℕ). (move_at ms x).from < s) e h) (λ l. p.lower j a (omega arith)) (eq-or-lt_of_le b)

  -- the moves of a state begin where the search for it stops
  part_at :
      (s i : ℕ) → 6 * m ≤ length ms → Seeks ms m 0 s i → take (length (of_state ms s m)) (drop (6 * i) ms) ≡ of_state ms s m
  part_at s i room p = ends (found (s + 1) (m - i) i (omega (arith, p.within)))
    where
      ends : (k : ℕ) × Seeks ms m i (s + 1) k → take (length (of_state ms s m)) (drop (6 * i) ms) ≡ of_state ms s m
      ends (k, q) =
          let e = part_is ms m s i k ascending p q in
          let l : length (take (6 * k - 6 * i) (drop (6 * i) ms)) ≡ 6 * k - 6 * i =
          length-take-le _ _ (omega (arith, length-drop (6 * i) ms, q.within, q.from)) in
          ap (λ (n : ℕ). take n (drop (6 * i) ms)) (sym (ap length e) ∙ l) ∙ e

-- a state that has moves is a state of a table that is not refused
has_moves : (t : List ℕ) (s : ℕ) → 0 < length (moves_of t s) → refusal t ≡ None
unfolding moves_of
has_moves t s h = known (refusal t) _ h
  where
    known : (x : Option ℕ) (l : List ℕ) → 0 < length (unless_refused x l) → x ≡ None
    known None l g = refl
    known (Some k) l g = absurd (omega arith)

-- a table that is refused has none
pub moves_refused : (t : List ℕ) (s : ℕ) {k : ℕ} → refusal t ≡ Some k → moves_of t s ≡ []
unfolding moves_of
moves_refused t s e = rw e

no_bytes : (l : List ℕ) → length l ≡ 0 → l ≡ []
no_bytes [] e = refl
no_bytes (x ∷ l) e = absurd (omega arith)

at_some : (n at : ℕ) → 0 < n → at ≡ unless_empty n at
at_some zero at l = absurd (omega arith)
at_some (suc n) at l = refl

-- the part of a state, as the library hands it out
module _ (t part : List ℕ) (s : ℕ) (is : part ≡ moves_of t s) where
  -- without bytes it stands at 0
  pub placed_none : (p : Part) → length part ≡ 0 → p.offset ≡ 0 → p.size ≡ 0 → Placed t s p
  unfolding begins
  placed_none p h o z =
      let e : moves_of t s ≡ [] = sym is ∙ no_bytes part h in
      record { part = rw (z, e); size = rw (z, e); offset = rw (o, e) }

  module _ (some : length part ≡ 0 → ⊥) where
    more : 0 < length (moves_of t s)
    more = ⊎_elim (λ z. absurd (some (ap length is ∙ z))) (λ h. h) (eq-zero-or-pos (length (moves_of t s)))

    pub part_good : Good t
    part_good = good t (has_moves t s more)

    -- else it begins where the search for the state stops
    pub placed_some :
        (i : ℕ) (p : Part) → Seeks (drop 12 t) (count t) 0 s i → p.offset ≡ 12 + 6 * i → p.size ≡ length part → Placed t s p
    unfolding begins
    placed_some i p q o z =
        let g = part_good in
        let b = part_bytes t (has_moves t s more) s in
        let a = g.moves.ascending in
        let n = z ∙ ap length is in
        record {
          part =
              rw (n, o)
              (rw b
              (ap (take (length (of_state (drop 12 t) s (count t)))) (sym (drop-drop (6 * i) 12 t))
              ∙ part_at (drop 12 t) (count t) a s i (omega (arith, g.frame.size, length-drop 12 t)) q));
          size = n;
          offset =
              o ∙ ap (λ (k : ℕ). 12 + 6 * k) (sym (below_is (drop 12 t) (count t) a s i q))
              ∙ at_some (length (moves_of t s)) (12 + 6 * below (drop 12 t) s (count t)) more;
        }

-- A part lies within its table.
pub placed_within : (t : List ℕ) (s : ℕ) (p : Part) → Placed t s p → p.offset + p.size ≤ length t
unfolding begins
placed_within t s p h =
    let l : length (take p.size (drop p.offset t)) ≡ p.size = ap length h.part ∙ sym h.size in
    ⊎_elim
    (λ z.
    let o : p.offset ≡ 0 = h.offset ∙ ap (λ (n : ℕ). unless_empty n (12 + 6 * below (drop 12 t) s (count t))) z in
    omega (arith, h.size))
    (λ g. omega (arith, h.size, simp (length-take, length-drop) at l))
    (eq-zero-or-pos (length (moves_of t s)))
