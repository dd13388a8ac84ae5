-- The members of a set counted, and as fields, one after another.
use Prim.Native.Nat.{ℕ, zero, suc, ◌+◌, ◌-◌, ◌/◌, ◌%◌, ◌^◌, ◌≤◌, ◌<◌}
use mathlib.Core.Path.{◌≡◌, refl, sym, ap, ◌∙◌}
use mathlib.Core.Bool.{Bool, true, false, cond}
use mathlib.Core.List.{List, [], ◌∷◌, ◌++◌, append_assoc, append-nil}
use native.Mathlib.Omega.{arith}
use native.Mathlib.Nat.{add-zero}
use native.Mathlib.Numerals.{add-one}
use lib.Count.{ones, ones_step}
use lib.Dec.{eqb}
use lib.Pow.{shr_lt, shr-shr}
use lib.ListN.{length, length-append}
use Rattle.sets.specs.Sets.{bit, has}
use Rattle.lines.specs.Report.{member_at, below, members, events}
use Rattle.lines.specs.Pen.{led}
use Rattle.lines.proofs.Led.{led-none, led-events-append}

pub below_next : (x s : ℕ) → below (x + 1) s ≡ below x s ++ member_at s x
unfolding below
below_next x s = rw add-one

one_or_none : (b : Bool) (x : ℕ) → length (cond b (x ∷ []) []) ≤ 1
one_or_none true x = omega arith
one_or_none false x = omega arith

pub count-below : (x s : ℕ) → length (below x s) ≤ x
unfolding below
count-below zero s = omega arith
count-below (suc x) s =
    omega (arith, length-append (below x s) (member_at s x), count-below x s, one_or_none (has s x) x)

-- one member for a digit that is 1
one_each : (d x : ℕ) → d < 2 → length (cond (eqb d 1) (x ∷ []) []) ≡ d
one_each zero x h = refl
one_each (suc zero) x h = refl
one_each (suc (suc d)) x h = absurd (omega arith)

member_size : (x s : ℕ) → length (member_at s x) ≡ bit s x
unfolding bit
member_size x s = one_each (s / 2 ^ x % 2) x (omega arith)

-- a digit of half the number
bit-half : (x s : ℕ) → bit (s / 2) x ≡ bit s (suc x)
unfolding bit
bit-half x s = ap (λ (n : ℕ). n % 2) (shr-shr s 1 x) ∙ ap (λ (k : ℕ). s / 2 ^ k % 2) (omega arith)

bit-first : (s : ℕ) → bit s 0 ≡ s % 2
unfolding bit
bit-first s = omega arith

size-next : (x s : ℕ) → length (below (suc x) s) ≡ length (below x s) + bit s x
unfolding below
size-next x s = length-append (below x s) (member_at s x) ∙ ap (λ (n : ℕ). length (below x s) + n) (member_size x s)

size-none : (s : ℕ) → length (below 0 s) ≡ 0
unfolding below
size-none s = refl

-- the lowest digit, and those above it
size-half : (x s : ℕ) → length (below (suc x) s) ≡ s % 2 + length (below x (s / 2))
size-half zero s = omega (arith, size-next 0 s, size-none s, size-none (s / 2), bit-first s)
size-half (suc x) s = omega (arith, size-next (suc x) s, size-next x (s / 2), size-half x s, bit-half x s)

-- as many members as digits that are 1
pub count-ones : (x s : ℕ) → s < 2 ^ x → ones s ≡ length (below x s)
unfolding ones
count-ones zero s h = ap ones (let e : s ≡ 0 = omega arith in e) ∙ sym (size-none s)
count-ones (suc x) s h =
    let k : s / 2 < 2 ^ x = shr_lt x 1 (rw add-one h) in
    ones_step s ∙ ap (λ (n : ℕ). s % 2 + n) (count-ones x (s / 2) k) ∙ sym (size-half x s)

-- the fields, member by member
pub member-out : (x s : ℕ) → has s x ≡ false → led (events (member_at s x)) ≡ []
member-out x s e = ap (λ (b : Bool). led (events (cond b (x ∷ []) []))) e ∙ led-none

pub members-none : (s : ℕ) → led (events (below 0 s)) ≡ []
unfolding below
members-none s = led-none

pub members-next : (x s : ℕ) → led (events (below (x + 1) s)) ≡ led (events (below x s)) ++ led (events (member_at s x))
members-next x s = ap (λ (l : List ℕ). led (events l)) (below_next x s) ∙ led-events-append (below x s) (member_at s x)

-- the members below one, that one, and those after it
members-from : (x d s : ℕ) → (rest : List ℕ) × (led (events (below (x + d) s)) ≡ led (events (below x s)) ++ rest)
members-from x zero s =
    ([], ap (λ (k : ℕ). led (events (below k s))) (add-zero x) ∙ sym (append-nil (led (events (below x s)))))
members-from x (suc d) s =
    let r = members-from x d s in
    let l = led (events (member_at s (x + d))) in (
      r.0 ++ l,
      ap (λ (k : ℕ). led (events (below k s))) (let e : x + suc d ≡ x + d + 1 = omega arith in e)
          ∙ members-next (x + d) s
          ∙ ap (λ (k : List ℕ). k ++ l) r.1
          ∙ append_assoc (led (events (below x s))) r.0 l,
    )

pub members-rest :
    (x s : ℕ) → x < 64 →
    (rest : List ℕ) × (led (events (members s)) ≡ (led (events (below x s)) ++ led (events (member_at s x))) ++ rest)
members-rest x s h =
    let r = members-from (x + 1) (63 - x) s in (
      r.0,
      ap (λ (k : ℕ). led (events (below k s))) (let e : 64 ≡ x + 1 + (63 - x) = omega arith in e)
          ∙ r.1
          ∙ ap (λ (k : List ℕ). k ++ r.0) (members-next x s),
    )
