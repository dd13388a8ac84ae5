-- Moves put into a buffer one after the other, and a whole table: the header, then the moves after it.
use Prim.Native.Nat.{ℕ, ◌+◌, ◌*◌, ◌≤◌}
use mathlib.Core.Path.{◌≡◌, sym, ◌∙◌, ap}
use mathlib.Core.List.{List, [], ◌∷◌, ◌++◌, append_assoc}
use native.Mathlib.Omega.{arith}
use native.Mathlib.Numerals.{add-one}
use lib.ListN.{length, take, drop, length-append, take-append-drop}
use lib.Seq.{length-take-le, take_at, drop_at, drop-drop}
use Rattle.csp.specs.Table.{Move, Table}
use Rattle.tables.specs.Numbers.{bytes, over}
use Rattle.tables.specs.Bytes.{row, threes, header, encoded}
use Rattle.tables.specs.Putting.{move_bytes, into}
use Rattle.tables.proofs.Coded.{length-bytes, bytes-append}
use Rattle.tables.proofs.Rows.{row-length, threes-append, length-threes}
use Rattle.tables.proofs.Writing.{length-encoded}

pub length_moves : (l : List Move) → length (move_bytes l) ≡ 6 * length l
length_moves l = omega (arith, length-bytes (threes l), length-threes l)

pub moves_append : (a b : List Move) → move_bytes (a ++ b) ≡ move_bytes a ++ move_bytes b
moves_append a b = ap bytes (threes-append a b) ∙ bytes-append (threes a) (threes b)

pub into-none : (at : ℕ) (old : List ℕ) → old ≡ into at (move_bytes []) old
unfolding threes bytes
into-none at old = sym (take-append-drop at old)

into_more :
    (at : ℕ) (a b old : List ℕ) → at + length a ≤ length old → into (at + length a) b (into at a old) ≡ into at (a ++ b) old
into_more at a b old h =
    ap (λ (x : List ℕ). into (at + length a) b x) (sym (append_assoc (take at old) a rest))
    ∙ ap (λ (x : List ℕ). x ++ over b (drop (at + length a) (front ++ rest))) (take_at front rest (at + length a) size)
    ∙ ap (λ (x : List ℕ). front ++ over b x) (drop_at front rest (at + length a) size)
    ∙ ap (λ (x : List ℕ). front ++ (b ++ x)) (drop-drop (length b) (length a) (drop at old) ∙ ap (λ (n : ℕ). drop n (drop at old)) (sym (length-append a b)))
    ∙ append_assoc (take at old) a (b ++ drop (length (a ++ b)) (drop at old))
    ∙ ap (λ (x : List ℕ). take at old ++ x) (sym (append_assoc a b (drop (length (a ++ b)) (drop at old))))
  where
    front : List ℕ
    front = take at old ++ a

    rest : List ℕ
    rest = drop (length a) (drop at old)

    size : length front ≡ at + length a
    size = omega (arith, length-append (take at old) a, length-take-le at old (omega arith))

-- more moves are put where the moves put so far end
pub moves_more :
    (at : ℕ) (l k : List Move) (old ms new : List ℕ) {to : ℕ} → ms ≡ into at (move_bytes l) old → to ≡ at + 6 * length l →
    at + 6 * length l ≤ length old → new ≡ into to (move_bytes k) ms → new ≡ into at (move_bytes (l ++ k)) old
moves_more at l k old ms new {to} p e h q =
    let z : to ≡ at + length (move_bytes l) = omega (arith, length_moves l) in
    q
    ∙ ap (λ (x : List ℕ). into to (move_bytes k) x) p
    ∙ ap (λ (n : ℕ). into n (move_bytes k) (into at (move_bytes l) old)) z
    ∙ into_more at (move_bytes l) (move_bytes k) old (omega (arith, length_moves l))
    ∙ ap (λ (x : List ℕ). into at x old) (sym (moves_append l k))

-- the moves of a row: none yet, and one more
pub row-none : (f : ℕ → Move) (at : ℕ) (old : List ℕ) → old ≡ into at (move_bytes (row f 0)) old
unfolding row
row-none f at old = into-none at old

pub row_next :
    (f : ℕ → Move) (at d : ℕ) (old ms new : List ℕ) {to : ℕ} → ms ≡ into at (move_bytes (row f d)) old → to ≡ at + 6 * d →
    at + 6 * d ≤ length old → new ≡ into to (move_bytes (f d ∷ [])) ms → new ≡ into at (move_bytes (row f (d + 1))) old
unfolding row
row_next f at d old ms new {to} p e h q =
    let a : to ≡ at + 6 * length (row f d) = omega (arith, row-length f d) in
    let b : at + 6 * length (row f d) ≤ length old = omega (arith, row-length f d) in
    rw add-one (moves_more at (row f d) (f d ∷ []) old ms new p a b q)

-- the header is put, then the moves after it
pub table_put :
    (t : Table) (m : ℕ) (o o₁ : List ℕ) → m ≡ length t.moves → o₁ ≡ header t.n t.E t.start m ++ drop 12 o →
    take 12 o₁ ++ over (move_bytes t.moves) (drop 12 o₁) ≡ over (encoded t) o
unfolding encoded bytes
table_put t m o o₁ s e =
    ap (λ (x : List ℕ). take 12 x ++ over (move_bytes t.moves) (drop 12 x)) e
    ∙ ap (λ (x : List ℕ). header t.n t.E t.start m ++ move_bytes t.moves ++ x) (drop-drop (length (move_bytes t.moves)) 12 o)
    ∙ ap (λ (n : ℕ). header t.n t.E t.start n ++ move_bytes t.moves ++ drop (12 + length (move_bytes t.moves)) o) s
    ∙ ap (λ (n : ℕ). encoded t ++ drop n o) (ap (λ (n : ℕ). 12 + n) (length_moves t.moves) ∙ sym (length-encoded t))
