-- The moves of one state, where the moves stand ascending: a part.
use Prim.Native.Nat.{ℕ, zero, suc, ◌<◌, ◌≤◌, ◌+◌, ◌-◌, ◌*◌}
use mathlib.Core.Bool.{Bool, false}
use mathlib.Core.Path.{◌≡◌, sym, ap, ap₂, ◌∙◌}
use mathlib.Core.List.{List, [], ◌++◌, append-nil, append_assoc}
use native.Mathlib.Omega.{arith}
use native.Mathlib.Nat.{add-suc}
use lib.ListN.{take, drop}
use lib.Seq.{take-add, drop-drop}
use lib.Dec.{eqb}
use borrow.Author.Tests.{eq-eqb, ne_eqb}
use Rattle.tables.specs.Moves.{move_at}
use Rattle.tables.specs.Valid.{disordered}
use Rattle.tables.specs.State.{keep, of_state}
use Rattle.tables.specs.Seek.{Seeks}
use Rattle.tables.proofs.Order.{rising}

more : (ms : List ℕ) (s k d : ℕ) → of_state ms s (k + suc d) ≡ of_state ms s (k + d) ++ keep (eqb (move_at ms (k + d)).from s) (take 6 (drop (6 * (k + d)) ms))
unfolding of_state
more ms s k d = rw add-suc

pub of_none : (ms : List ℕ) (s k d : ℕ) → ((j : ℕ) → k ≤ j → j < k + d → (move_at ms j).from ≡ s → ⊥) → of_state ms s (k + d) ≡ of_state ms s k
of_none ms s k zero h = ap (of_state ms s) (let e : k + 0 ≡ k = omega arith in e)
of_none ms s k (suc d) h =
    more ms s k d
    ∙ ap₂ (λ (a : List ℕ) (t : Bool). a ++ keep t (take 6 (drop (6 * (k + d)) ms)))
    (of_none ms s k d (λ j a b. h j a (omega arith)))
    (ne_eqb _ _ (h (k + d) (omega arith) (omega arith)))
    ∙ append-nil (of_state ms s k)

of_all : (ms : List ℕ) (s k d : ℕ) → ((j : ℕ) → k ≤ j → j < k + d → (move_at ms j).from ≡ s) →
    of_state ms s (k + d) ≡ of_state ms s k ++ take (6 * d) (drop (6 * k) ms)
of_all ms s k zero h = ap (of_state ms s) (let e : k + 0 ≡ k = omega arith in e) ∙ sym (append-nil (of_state ms s k))
of_all ms s k (suc d) h =
    let e : 6 * suc d ≡ 6 * d + 6 = omega arith in
    let f : 6 * k + 6 * d ≡ 6 * (k + d) = omega arith in
    let g : take (6 * d) (drop (6 * k) ms) ++ take 6 (drop (6 * (k + d)) ms) ≡ take (6 * suc d) (drop (6 * k) ms) =
    ap (λ (x : List ℕ). take (6 * d) (drop (6 * k) ms) ++ take 6 x) (ap (λ (n : ℕ). drop n ms) (sym f) ∙ sym (drop-drop (6 * d) (6 * k) ms))
    ∙ sym (take-add (6 * d) 6 (drop (6 * k) ms)) ∙ ap (λ (n : ℕ). take n (drop (6 * k) ms)) (sym e) in
    more ms s k d
    ∙ ap₂ (λ (a : List ℕ) (t : Bool). a ++ keep t (take 6 (drop (6 * (k + d)) ms)))
    (of_all ms s k d (λ j a b. h j a (omega arith)))
    (eq-eqb _ _ (h (k + d) (omega arith) (omega arith)))
    ∙ append_assoc (of_state ms s k) (take (6 * d) (drop (6 * k) ms)) (take 6 (drop (6 * (k + d)) ms))
    ∙ ap (λ (x : List ℕ). of_state ms s k ++ x) g

pub part_is : (ms : List ℕ) (m s i k : ℕ) → disordered (move_at ms) m ≡ false → Seeks ms m 0 s i → Seeks ms m i (s + 1) k →
    take (6 * k - 6 * i) (drop (6 * i) ms) ≡ of_state ms s m
unfolding of_state
part_is ms m s i k h p q =
    let low : of_state ms s i ≡ [] =
    ap (of_state ms s) (let e : i ≡ 0 + i = omega arith in e)
    ∙ of_none ms s 0 i (λ j a b e. let l = p.lower j (omega arith) (omega arith) in omega arith) in
    let mid : of_state ms s k ≡ of_state ms s i ++ take (6 * (k - i)) (drop (6 * i) ms) =
    ap (of_state ms s) (let e : k ≡ i + (k - i) = omega (arith, q.from) in e)
    ∙ of_all ms s i (k - i) (λ j a b.
    let l = q.lower j (omega (arith, q.from)) a in
    let g = p.stops (omega (arith, q.within)) in
    let r = rising (move_at ms) m h i j a (omega (arith, q.within)) in
    omega arith) in
    let high : of_state ms s m ≡ of_state ms s k =
    ap (of_state ms s) (let e : m ≡ k + (m - k) = omega (arith, q.within) in e)
    ∙ of_none ms s k (m - k) (λ j a b e.
    let g = q.stops (omega arith) in
    let r = rising (move_at ms) m h k j a (omega arith) in
    omega arith) in
    let d : 6 * k - 6 * i ≡ 6 * (k - i) = omega arith in
    rw (high, mid, low) (ap (λ (n : ℕ). take n (drop (6 * i) ms)) d)
