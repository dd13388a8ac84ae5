-- The moves of a watchdog put into a buffer, node after node; and how many there are.
use Prim.Native.Nat.{ℕ, zero, suc, ◌+◌, ◌*◌, ◌≤◌, ◌<◌}
use mathlib.Core.Path.{◌≡◌, sym, ◌∙◌, ap, subst₂}
use mathlib.Core.List.{List, [], ◌∷◌}
use native.Mathlib.Omega.{arith}
use native.Mathlib.Nat.{mul-le-mul, mul-le-mul_right}
use native.Mathlib.Numerals.{add-one}
use lib.ListN.{length, length-append}
use Rattle.csp.specs.Table.{move}
use Rattle.tables.specs.Numbers.{over}
use Rattle.tables.specs.Bytes.{row, encoded}
use Rattle.tables.specs.Answers.{wrote}
use Rattle.tables.specs.Putting.{move_bytes, into}
use Rattle.tables.proofs.Writing.{length-encoded}
use Rattle.tables.proofs.Rows.{row-length}
use Rattle.tables.proofs.Putting.{into-none, moves_more}
use Rattle.normal.specs.declared.form.Form.{Form}
use Rattle.watchdog.specs.Asking.{Puts, put}
use Rattle.watchdog.specs.Rows.{node_move, node_moves, watch_moves, watch_table}

pub nodes-length : (next : List ℕ) (k E i : ℕ) → length (node_moves next k E i) ≡ i * E
unfolding node_moves
nodes-length next k E zero = omega arith
nodes-length next k E (suc i) =
    length-append (node_moves next k E i) (row (node_move next k i) E)
    ∙ omega (arith, nodes-length next k E i, row-length (node_move next k i) E)

-- the nodes' moves: none yet, and one node more
pub nodes-none : (next : List ℕ) (k E : ℕ) (old : List ℕ) → old ≡ into 0 (move_bytes (node_moves next k E 0)) old
unfolding node_moves
nodes-none next k E old = into-none 0 old

pub nodes-next :
    (next : List ℕ) (k E i : ℕ) (old ms new : List ℕ) {to : ℕ} → ms ≡ into 0 (move_bytes (node_moves next k E i)) old →
    to ≡ 6 * (i * E) → 6 * (i * E) ≤ length old → new ≡ into to (move_bytes (row (node_move next k i) E)) ms →
    new ≡ into 0 (move_bytes (node_moves next k E (i + 1))) old
unfolding node_moves
nodes-next next k E i old ms new {to} p e h q =
    let a : to ≡ 0 + 6 * length (node_moves next k E i) = omega (arith, nodes-length next k E i) in
    let b : 0 + 6 * length (node_moves next k E i) ≤ length old = omega (arith, nodes-length next k E i) in
    rw add-one (moves_more 0 (node_moves next k E i) (row (node_move next k i) E) old ms new p a b q)

-- how many moves there are
pub rows_fit : (i k E : ℕ) → i < k → i * E + E ≤ k * E
rows_fit i k E h = let m : suc i * E ≤ k * E = mul-le-mul_right E h in omega arith

pub watch_count : (next : List ℕ) (k E : ℕ) → length (watch_moves next k E) ≡ k * E + 1
watch_count next k E =
    length-append (node_moves next k E k) (move k (E + 1) k ∷ []) ∙ omega (arith, nodes-length next k E k)

pub watch_length : (f : Form) → length (encoded (watch_table f)) ≡ 12 + 6 * (f.count * f.events + 1)
watch_length f = length-encoded (watch_table f) ∙ ap (λ (m : ℕ). 12 + 6 * m) (watch_count f.next f.count f.events)

pub rows_few : (k E : ℕ) → k ≤ 64 → E < 63 → k * E ≤ 3968
rows_few k E h l = let e : E ≤ 62 = omega arith in mul-le-mul h e

pub puts_put :
    (t old new : List ℕ) (size : ℕ) → size ≡ length t → size ≤ length old → new ≡ over t old → Puts t old (wrote size) new
puts_put t old new size e h q =
    subst₂ (λ (n : ℕ) (x : List ℕ). Puts t old (wrote n) x) (sym e) (sym q) (put (omega arith))
