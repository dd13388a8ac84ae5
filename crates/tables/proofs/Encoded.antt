-- The bytes of a table denote it, and a good table is the bytes of what it denotes.
use Rattle.std.specs.Prelude.{None}
use Prim.Native.Nat.{ℕ, suc, ◌<◌, ◌≤◌, ◌+◌, ◌*◌, ◌/◌, ◌%◌}
use mathlib.Core.Path.{◌≡◌, refl, sym, ap, ap₂, ◌∙◌, subst}
use mathlib.Core.List.{List, [], ◌∷◌, Memᴰ}
use native.Mathlib.Omega.{arith}
use lib.ListN.{length, drop, get_or, length-drop}
use lib.Seq.{drop-drop, get_or-drop, take_all}
use Rattle.csp.specs.Table.{Move, Table}
use Rattle.tables.specs.Numbers.{num, numbers, bytes, AllBytes}
use Rattle.tables.specs.Moves.{move_at, listed}
use Rattle.tables.specs.Bytes.{states, events, start, count, move_of, row, table_of, threes, encoded}
use Rattle.tables.specs.Valid.{refusal}
use Rattle.tables.specs.Reader.{list_of}
use Rattle.tables.proofs.Coded.{length-bytes, number_at, Sixteen, none, more, bytes_small}
use Rattle.tables.proofs.Rows.{same_move, row_same, row-length, threes-row, length-threes, row-threes}
use Rattle.tables.proofs.Named.{Named}
use Rattle.tables.proofs.Tested.{Good, good_clear}
use Rattle.tables.proofs.Writing.{length-encoded}
use Rattle.tables.proofs.Reading.{length_list}
use Rattle.tables.proofs.Proper.{Proper, row_within, row_sound}

-- numbers, as bytes, as numbers
pub numbers-bytes : (l : List ℕ) → numbers (bytes l) ≡ l
unfolding numbers bytes
numbers-bytes [] = refl
numbers-bytes (v ∷ r) = let e : v % 256 + 256 * (v / 256) ≡ v = omega arith in ap₂ (λ (x : ℕ) (y : List ℕ). x ∷ y) e (numbers-bytes r)

-- bytes, an even count of them, as numbers, as bytes
pub bytes-numbers : (b : List ℕ) → AllBytes b → length b % 2 ≡ 0 → bytes (numbers b) ≡ b
unfolding numbers bytes
bytes-numbers [] h e = refl
bytes-numbers (a ∷ []) h e = absurd (omega arith)
bytes-numbers (a ∷ b ∷ r) h e =
    let ha : a < 256 = h 0 in
    let hb : b < 256 = h 1 in
    let low : (a + 256 * b) % 256 ≡ a = omega arith in
    let high : (a + 256 * b) / 256 ≡ b = omega arith in
    let rest : bytes (numbers r) ≡ r = bytes-numbers r (λ i. h (suc (suc i))) (omega arith) in
    ap₂ (λ (x : ℕ) (y : List ℕ). x ∷ y) low (ap₂ (λ (x : ℕ) (y : List ℕ). x ∷ y) high rest)

-- the moves of a row of bytes are those of its numbers
pub listed_is : (ms : List ℕ) (j : ℕ) → 6 * j + 5 < length ms → listed (numbers ms) j ≡ move_at ms j
unfolding listed move_at
listed_is ms j h =
    same_move
    (number_at ms (3 * j) (omega arith) ∙ ap (num ms) (let e : 2 * (3 * j) ≡ 6 * j = omega arith in e))
    (number_at ms (3 * j + 1) (omega arith) ∙ ap (num ms) (let e : 2 * (3 * j + 1) ≡ 6 * j + 2 = omega arith in e))
    (number_at ms (3 * j + 2) (omega arith) ∙ ap (num ms) (let e : 2 * (3 * j + 2) ≡ 6 * j + 4 = omega arith in e))

pub rows_are : (ms : List ℕ) (m : ℕ) → 6 * m ≤ length ms → row (listed (numbers ms)) m ≡ row (move_at ms) m
rows_are ms m h = row_same _ _ m (λ j l. listed_is ms j (omega arith))

-- what the bytes of a table say
module _ (t : Table) where
  pub states_is : states (encoded t) ≡ t.n
  unfolding encoded bytes
  states_is = omega arith

  pub events_is : events (encoded t) ≡ t.E
  unfolding encoded bytes
  events_is = omega arith

  pub start_is : start (encoded t) ≡ t.start
  unfolding encoded bytes
  start_is = omega arith

  pub count_is : count (encoded t) ≡ length t.moves
  unfolding encoded bytes
  count_is = omega arith

  pub moves_are : drop 12 (encoded t) ≡ bytes (threes t.moves)
  unfolding encoded bytes
  moves_are = refl

  pub list_is : list_of (encoded t) ≡ threes t.moves
  list_is = ap numbers moves_are ∙ numbers-bytes (threes t.moves)

  row_is : row (move_of (encoded t)) (length t.moves) ≡ t.moves
  row_is =
      ap (λ (b : List ℕ). row (move_at b) (length t.moves)) moves_are
      ∙ sym (rows_are (bytes (threes t.moves)) (length t.moves) (omega (arith, length-bytes (threes t.moves), length-threes t.moves)))
      ∙ ap (λ (l : List ℕ). row (listed l) (length t.moves)) (numbers-bytes (threes t.moves))
      ∙ row-threes t.moves

  -- The bytes of a table denote that table.
  pub denotes : table_of (encoded t) ≡ t
  denotes i = record { n = states_is i; E = events_is i; start = start_is i; moves = moves i }
    where
      moves : row (move_of (encoded t)) (count (encoded t)) ≡ t.moves
      moves = ap (row (move_of (encoded t))) count_is ∙ row_is

  framed : (num (encoded t) 8 ≡ 12) × (num (encoded t) 10 ≡ 0)
  unfolding encoded bytes
  framed = (refl, refl)

  -- The bytes of a proper table are refused by no test.
  pub encoded_good : Proper t → Good (encoded t)
  encoded_good g =
      let p : Proper (table_of (encoded t)) = subst (λ (x : Table). Proper x) (sym denotes) g in
      record {
        long = omega (arith, length-encoded t);
        limits = row_within _ _ _ _ _ p;
        frame = record { offset = framed.0; last = framed.1; size = omega (arith, length-encoded t, count_is) };
        moves = row_sound _ _ _ _ _ p;
      }

  pub encoded_clear : Proper t → refusal (encoded t) ≡ None
  encoded_clear g = good_clear (encoded t) (encoded_good g)

threes_small : (n E : ℕ) (l : List Move) → n ≤ 1024 → E ≤ 63 → ((v : Move) → Memᴰ v l → Named n E v) → Sixteen (threes l)
unfolding threes
threes_small n E [] a b h = none
threes_small n E (v ∷ l) a b h =
    let g = h v (Memᴰ.head refl) in
    more v.from (omega (arith, g.from))
    (more v.event (omega (arith, g.event))
    (more v.to (omega (arith, g.to)) (threes_small n E l a b (λ w i. h w (Memᴰ.tail i)))))

-- header and moves, as one row of numbers
pub encoded-numbers : (t : Table) →
    encoded t ≡ bytes (t.n ∷ t.E ∷ t.start ∷ length t.moves ∷ 12 ∷ 0 ∷ threes t.moves)
unfolding encoded bytes
encoded-numbers t = refl

-- The bytes of a proper table are bytes.
pub encoded-bytes : (t : Table) → Proper t → AllBytes (encoded t)
encoded-bytes t g =
    let w = g.limits in
    let f = g.fits in
    let l : Sixteen (threes t.moves) =
    threes_small t.n t.E t.moves w.states w.events
    (λ v i. record { from = f.from_below i; event = f.event_upto i; to = f.to_below i }) in
    rw (encoded-numbers t)
    (bytes_small _
    (more t.n (omega arith)
    (more t.E (omega arith)
    (more t.start (omega (arith, f.start_below))
    (more (length t.moves) (omega arith) (more 12 (omega arith) (more 0 (omega arith) l)))))))

number_step : (t : List ℕ) (k : ℕ) → k + 2 ≤ length t → numbers (drop k t) ≡ num t k ∷ numbers (drop (k + 2) t)
unfolding numbers
number_step t k h =
    cons (drop k t) (omega (arith, length-drop k t))
    ∙ ap₂ (λ (x : ℕ) (y : List ℕ). x ∷ numbers y)
    (ap₂ (λ (x y : ℕ). x + 256 * y)
    (get_or-drop k t 0 0 ∙ ap (λ (i : ℕ). get_or t i 0) (let e : k + 0 ≡ k = omega arith in e))
    (get_or-drop k t 1 0))
    (drop-drop 2 k t)
  where
    cons : (b : List ℕ) → 2 ≤ length b → numbers b ≡ num b 0 ∷ numbers (drop 2 b)
    cons [] h = absurd (omega arith)
    cons (a ∷ []) h = absurd (omega arith)
    cons (a ∷ b ∷ r) h = refl

-- a table's numbers: the header's six, then its list
header_list : (t : List ℕ) → 12 ≤ length t →
    numbers t ≡ num t 0 ∷ num t 2 ∷ num t 4 ∷ num t 6 ∷ num t 8 ∷ num t 10 ∷ list_of t
header_list t h =
    number_step t 0 (omega arith)
    ∙ ap (λ (x : List ℕ). num t 0 ∷ x) (number_step t 2 (omega arith)
    ∙ ap (λ (x : List ℕ). num t 2 ∷ x) (number_step t 4 (omega arith)
    ∙ ap (λ (x : List ℕ). num t 4 ∷ x) (number_step t 6 (omega arith)
    ∙ ap (λ (x : List ℕ). num t 6 ∷ x) (number_step t 8 (omega arith)
    ∙ ap (λ (x : List ℕ). num t 8 ∷ x) (number_step t 10 (omega arith))))))

module _ (t : List ℕ) (g : Good t) where
  pub list_moves : row (listed (list_of t)) (count t) ≡ (table_of t).moves
  list_moves = rows_are (drop 12 t) (count t) (omega (arith, g.frame.size, length-drop 12 t))

  pub list_numbers : threes (table_of t).moves ≡ list_of t
  list_numbers =
      ap threes (sym list_moves) ∙ threes-row (list_of t) (count t) (omega (arith, length_list t g))
      ∙ take_all (3 * count t) (list_of t) (omega (arith, length_list t g))

  -- A good table is the bytes of the table that it denotes.
  pub encoded_again : AllBytes t → encoded (table_of t) ≡ t
  encoded_again b =
      let e : (states t ∷ events t ∷ start t ∷ length (table_of t).moves ∷ 12 ∷ 0 ∷ threes (table_of t).moves) ≡ numbers t =
      cc (header_list t g.long, row-length (move_of t) (count t), list_numbers, g.frame.offset, g.frame.last) in
      encoded-numbers (table_of t) ∙ ap bytes e ∙ bytes-numbers t b (omega (arith, g.frame.size))
