-- The moves in the part that is handed out are exactly the moves of that state, in their order.
use Rattle.std.specs.Prelude.{None}
use Prim.Native.Nat.{ℕ, zero, suc, ◌<◌, ◌≤◌, ◌+◌, ◌*◌, ◌/◌, ◌%◌}
use mathlib.Core.Bool.{Bool, true, false}
use mathlib.Core.Path.{◌≡◌, refl, sym, ap, ap₂, ◌∙◌}
use mathlib.Core.Logic.{⊎_elim}
use mathlib.Core.List.Memᴰ
use mathlib.Core.List.{List, [], ◌∷◌, ◌++◌, append-nil, append_assoc, Memᴰ}
use native.Mathlib.Omega.{arith}
use lib.ListN.{length, take, drop, get_or, length-append, length-drop, get_or-append}
use lib.Seq.{get_or-append-add, get_or-take, get_or-drop, length-take-le}
use lib.Dec.{eqb, ltb}
use borrow.Author.Tests.{eqb-true, eq-eqb, ltb-false}
use Rattle.csp.specs.Table.{Move}
use Rattle.tables.specs.Numbers.{num}
use Rattle.tables.specs.Moves.{move_at}
use Rattle.tables.specs.Bytes.{states, count, move_of, row, table_of, moves_in}
use Rattle.tables.specs.Valid.{refusal}
use Rattle.tables.specs.State.{keep, of_state, moves_of, leaving}
use Rattle.tables.proofs.Rows.{same_move, row_same, in_row}
use Rattle.tables.proofs.PartOf.{of_none}
use Rattle.tables.proofs.Tested.{good}
use Rattle.tables.proofs.Proper.{fits}

num_left : (a b : List ℕ) (i : ℕ) → i + 1 < length a → num (a ++ b) i ≡ num a i
num_left a b i h =
    ap₂ (λ (x y : ℕ). x + 256 * y) (get_or-append a b 0 i (omega arith)) (get_or-append a b 0 (i + 1) h)

num_right : (a b : List ℕ) (n i k : ℕ) → length a ≡ n → n + i ≡ k → num (a ++ b) k ≡ num b i
num_right a b n i k h e =
    let p : k ≡ length a + i = omega arith in
    let q : k + 1 ≡ length a + (i + 1) = omega arith in
    ap₂ (λ (x y : ℕ). x + 256 * y)
    (ap (λ (x : ℕ). get_or (a ++ b) x 0) p ∙ get_or-append-add a b i 0)
    (ap (λ (x : ℕ). get_or (a ++ b) x 0) q ∙ get_or-append-add a b (i + 1) 0)

num_chunk : (ms : List ℕ) (k i : ℕ) → i + 1 < 6 → num (take 6 (drop k ms)) i ≡ num ms (k + i)
num_chunk ms k i h =
    let e : k + (i + 1) ≡ (k + i) + 1 = omega arith in
    ap₂ (λ (x y : ℕ). x + 256 * y)
    (get_or-take 6 (drop k ms) i 0 (omega arith) ∙ get_or-drop k ms i 0)
    (get_or-take 6 (drop k ms) (i + 1) 0 h ∙ get_or-drop k ms (i + 1) 0 ∙ ap (λ (x : ℕ). get_or ms x 0) e)

move_left : (a b : List ℕ) (j : ℕ) → 6 * j + 5 < length a → move_at (a ++ b) j ≡ move_at a j
unfolding move_at
move_left a b j h =
    same_move (num_left a b (6 * j) (omega arith)) (num_left a b (6 * j + 2) (omega arith)) (num_left a b (6 * j + 4) (omega arith))

chunk : List ℕ → ℕ → List ℕ
chunk ms k = take 6 (drop (6 * k) ms)

length_chunk : (ms : List ℕ) (k : ℕ) → 6 * k + 5 < length ms → length (chunk ms k) ≡ 6
unfolding chunk
length_chunk ms k h = length-take-le 6 (drop (6 * k) ms) (omega (arith, length-drop (6 * k) ms))

move_right : (a ms : List ℕ) (j k : ℕ) → length a ≡ 6 * j → move_at (a ++ chunk ms k) j ≡ move_at ms k
unfolding chunk move_at
move_right a ms j k h =
    same_move
    (num_right a (chunk ms k) (6 * j) 0 (6 * j) h (omega arith) ∙ num_chunk ms (6 * k) 0 (omega arith) ∙ ap (num ms) (let e : 6 * k + 0 ≡ 6 * k = omega arith in e))
    (num_right a (chunk ms k) (6 * j) 2 (6 * j + 2) h refl ∙ num_chunk ms (6 * k) 2 (omega arith))
    (num_right a (chunk ms k) (6 * j) 4 (6 * j + 4) h refl ∙ num_chunk ms (6 * k) 4 (omega arith))

-- six bytes more are one move more
moves_more : (a ms : List ℕ) (k : ℕ) → length a % 6 ≡ 0 → 6 * k + 5 < length ms →
    moves_in (a ++ chunk ms k) ≡ moves_in a ++ (move_at ms k ∷ [])
unfolding row
moves_more a ms k z h =
    let n : length (a ++ chunk ms k) / 6 ≡ suc (length a / 6) = omega (arith, length-append a (chunk ms k), length_chunk ms k h) in
    ap (row (move_at (a ++ chunk ms k))) n
    ∙ ap₂ (λ (l : List Move) (v : Move). l ++ (v ∷ []))
    (row_same _ _ (length a / 6) (λ j l. move_left a (chunk ms k) j (omega arith)))
    (move_right a ms (length a / 6) k (omega arith))

leaving-append : (s : ℕ) (a b : List Move) → leaving s (a ++ b) ≡ leaving s a ++ leaving s b
unfolding leaving
leaving-append s [] b = refl
leaving-append s (v ∷ a) b =
    ap (λ (l : List Move). keep (eqb v.from s) (v ∷ []) ++ l) (leaving-append s a b)
    ∙ sym (append_assoc (keep (eqb v.from s) (v ∷ [])) (leaving s a) (leaving s b))

-- what leaves s is in the list, and leaves s
pub leaving_in : (s : ℕ) (l : List Move) (v : Move) → Memᴰ v (leaving s l) → Memᴰ v l × (v.from ≡ s)
unfolding leaving
leaving_in s [] v i = absurd (Memᴰ.not-nil i)
leaving_in s (w ∷ l) v i = pick (eqb w.from s) refl (λ j. let r = leaving_in s l v j in (Memᴰ.tail r.0, r.1)) i
  where
    pick : (b : Bool) → eqb w.from s ≡ b → (Memᴰ v (leaving s l) → Memᴰ v (w ∷ l) × (v.from ≡ s)) →
        Memᴰ v (keep b (w ∷ []) ++ leaving s l) → Memᴰ v (w ∷ l) × (v.from ≡ s)
    pick false e ih i = ih i
    pick true e ih i =
        ⊎_elim (λ d. (Memᴰ.head d, ap (λ (x : Move). x.from) d ∙ eqb-true _ _ e)) ih (Memᴰ.cases_cons i)

pub in_leaving : (s : ℕ) (l : List Move) (v : Move) → Memᴰ v l → v.from ≡ s → Memᴰ v (leaving s l)
unfolding leaving
in_leaving s [] v i f = absurd (Memᴰ.not-nil i)
in_leaving s (w ∷ l) v i f =
    ⊎_elim
    (λ d. let g : w.from ≡ s = ap (λ (x : Move). x.from) (sym d) ∙ f in rw (eq-eqb w.from s g) (Memᴰ.head d))
    (λ j. pick (eqb w.from s) (in_leaving s l v j f))
    (Memᴰ.cases_cons i)
  where
    pick : (b : Bool) → Memᴰ v (leaving s l) → Memᴰ v (keep b (w ∷ []) ++ leaving s l)
    pick true j = Memᴰ.tail j
    pick false j = j

-- the bytes kept are whole moves, and these are the moves that leave s
record Kept (ms : List ℕ) (s m : ℕ) : Type 0 where
  whole : length (of_state ms s m) % 6 ≡ 0
  moves : moves_in (of_state ms s m) ≡ leaving s (row (move_at ms) m)

kept : (ms : List ℕ) (s m : ℕ) → 6 * m ≤ length ms → Kept ms s m
unfolding of_state leaving row chunk
kept ms s zero h = record { whole = refl; moves = refl }
kept ms s (suc m) h = more (kept ms s m (omega arith))
  where
    one : (b : Bool) → Kept ms s m → length (of_state ms s m ++ keep b (chunk ms m)) % 6 ≡ 0
    one true k = omega (arith, k.whole, length-append (of_state ms s m) (chunk ms m), length_chunk ms m (omega arith))
    one false k = omega (arith, k.whole, length-append (of_state ms s m) [])

    two : (b : Bool) → Kept ms s m →
        moves_in (of_state ms s m ++ keep b (chunk ms m)) ≡ leaving s (row (move_at ms) m) ++ (keep b (move_at ms m ∷ []) ++ [])
    two true k =
        moves_more (of_state ms s m) ms m k.whole (omega arith)
        ∙ ap (λ (l : List Move). l ++ (move_at ms m ∷ [])) k.moves
    two false k = ap moves_in (append-nil (of_state ms s m)) ∙ k.moves ∙ sym (append-nil (leaving s (row (move_at ms) m)))

    more : Kept ms s m → Kept ms s (suc m)
    more k = record {
      whole = one (eqb (move_at ms m).from s) k;
      moves = two (eqb (move_at ms m).from s) k ∙ sym (leaving-append s (row (move_at ms) m) (move_at ms m ∷ []));
    }

module _ (t : List ℕ) (c : refusal t ≡ None) (s : ℕ) where
  all_kept : Kept (drop 12 t) s (count t)
  all_kept = kept (drop 12 t) s (count t) (omega (arith, (good t c).frame.size, length-drop 12 t))

  -- the part is what the whole table keeps: a state not below n has no move
  pub part_bytes : moves_of t s ≡ of_state (drop 12 t) s (count t)
  unfolding moves_of of_state
  part_bytes = rw c (pick (ltb s (states t)) refl)
    where
      pick : (b : Bool) → ltb s (states t) ≡ b → keep b (of_state (drop 12 t) s (count t)) ≡ of_state (drop 12 t) s (count t)
      pick true e = refl
      pick false e =
          let n : states t ≤ s = ltb-false _ _ e in
          sym (ap (of_state (drop 12 t) s) (let z : count t ≡ 0 + count t = omega arith in z)
          ∙ of_none (drop 12 t) s 0 (count t)
          (λ j a b f. let g : (move_of t j).from < states t = (fits t c).from_below (in_row (move_of t) (count t) j (omega arith)) in omega arith))

  -- a part is a whole number of moves
  pub part_whole : length (moves_of t s) % 6 ≡ 0
  part_whole = rw part_bytes all_kept.whole

  -- The moves in the part are those that leave s, in their order.
  pub part_moves : moves_in (moves_of t s) ≡ leaving s (table_of t).moves
  part_moves = ap moves_in part_bytes ∙ all_kept.moves

  -- so each of them is a move of the table, from s, and each move of the table from s is among them
  pub part_sound : (v : Move) → Memᴰ v (moves_in (moves_of t s)) → Memᴰ v (table_of t).moves × (v.from ≡ s)
  part_sound v i = leaving_in s (table_of t).moves v (rw part_moves at i)

  pub part_all : (v : Move) → Memᴰ v (table_of t).moves → v.from ≡ s → Memᴰ v (moves_in (moves_of t s))
  part_all v i f = rw part_moves (in_leaving s (table_of t).moves v i f)
