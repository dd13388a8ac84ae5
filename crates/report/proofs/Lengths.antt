-- How long a line is, by its fields.
use Prim.Native.Nat.{ℕ, zero, suc, ◌+◌, ◌*◌, ◌/◌, ◌≤◌, ◌<◌}
use mathlib.Core.Path.{◌≡◌, refl, ap, ◌∙◌}
use mathlib.Core.Bool.{Bool, true, false, cond}
use mathlib.Core.List.{List, [], ◌∷◌, ◌++◌}
use native.Mathlib.Omega.{arith}
use native.Mathlib.Decide.{dec_lt}
use lib.ListN.{length, length-append}
use Rattle.sets.specs.Sets.{has}
use Rattle.csp.specs.Verdict.{passes, trace_fault, refusal_fault}
use Rattle.csp.proofs.Testing.{Word, nil, cons}
use Rattle.refine.specs.Verdicts.{Answer, found, refused}
use Rattle.lines.specs.Text.{letters, decimal}
use Rattle.lines.specs.Fields.{Field, word, number, bytes_of, line_feed, line_of, apart}
use Rattle.lines.specs.Report.{mode_word, events, member_at, below, members, offered, verdict_fields, report_line}
use Rattle.lines.specs.Pen.{led}
use Rattle.lines.proofs.Numbers.{decimal_one, decimal_more}
use Rattle.lines.proofs.Led.{led-append, events-append, apart-led}
use Rattle.lines.proofs.Members.{count-below}

-- ten times as large a number has one digit more
abbrev Upto : ℕ → ℕ → Type 0
Upto b k = (n : ℕ) → n < b → length (decimal n) ≤ k

digits_1 : Upto 10 1
digits_1 n h = omega (arith, ap length (decimal_one n h))

one_more : (b k : ℕ) → 1 ≤ k → Upto b k → Upto (10 * b) (suc k)
one_more b k p f n h = go (dec_lt n 10)
  where
    go : Dec (n < 10) → length (decimal n) ≤ suc k
    go (yes l) = omega (arith, digits_1 n l)
    go (no g) =
        let e = ap length (decimal_more n (omega arith)) ∙ length-append (decimal (n / 10)) _ in
        omega (arith, e, f (n / 10) (omega arith))

pub digits_2 : Upto 100 2
digits_2 = one_more 10 1 (omega arith) digits_1

pub digits_5 : Upto 100000 5
digits_5 = one_more 10000 4 (omega arith) (one_more 1000 3 (omega arith) (one_more 100 2 (omega arith) digits_2))

-- a field that follows another, then the others
led-next : (f : Field) (r : List Field) → length (led (f ∷ r)) ≡ 1 + length (bytes_of f) + length (led r)
unfolding led
led-next f r = omega (arith, length-append (bytes_of f) (led r))

led-none : length (led []) ≡ 0
unfolding led
led-none = refl

led_then : (f g : List Field) → length (led (f ++ g)) ≡ length (led f) + length (led g)
led_then f g = ap length (led-append f g) ∙ length-append (led f) (led g)

-- an event is a space and at most two digits
pub events-length : (E : ℕ) {s : List ℕ} → E < 100 → Word E s → length (led (events s)) ≤ 3 * length s
events-length E h nil = omega (arith, led-none)
events-length E h (cons {e = e} {s = s} p q w) =
    omega (arith, led-next (number e) (events s), digits_2 e (omega arith), events-length E h w)

member_length : (b : Bool) (x : ℕ) → x < 100 → length (led (events (cond b (x ∷ []) []))) ≤ 3
member_length true x h = omega (arith, led-next (number x) [], led-none, digits_2 x h)
member_length false x h = omega (arith, led-none)

below_length : (x s : ℕ) → x ≤ 100 → length (led (events (below x s))) ≤ 3 * x
unfolding below
below_length zero s h = omega (arith, led-none)
below_length (suc x) s h =
    omega (
      arith,
      ap (λ (l : List Field). length (led l)) (events-append (below x s) (member_at s x)),
      led_then (events (below x s)) (events (member_at s x)),
      below_length x s (omega arith),
      member_length (has s x) x (omega arith),
    )

-- the mode's word
word_length : (mode : ℕ) → length (bytes_of (mode_word mode)) ≤ 8
unfolding letters
word_length zero = omega arith
word_length (suc m) = omega arith

-- the offers: the word, their count and at most 64 numbers
offered-length : (s : ℕ) → length (led (offered s)) ≤ 202
unfolding letters
offered-length s =
    let n : length (members s) ≤ 64 = count-below 64 s in
    omega (
      arith,
      led-next (word "offers") (number (length (members s)) ∷ events (members s)),
      led-next (number (length (members s))) (events (members s)),
      digits_2 (length (members s)) (omega arith),
      below_length 64 s (omega arith),
    )

-- What a verdict's fields take: small numbers, and a trace of at most 16,384 events below 100.
pub data Small : Answer → Type 0 where
  small_pass : (n p : ℕ) → n < 100 → p < 100000 → Small (found (passes n p))
  small_trace : {E : ℕ} {s : List ℕ} → E < 100 → Word E s → length s ≤ 16384 → Small (found (trace_fault s))
  small_refusal : {E o : ℕ} {s : List ℕ} → E < 100 → Word E s → length s ≤ 16384 → Small (found (refusal_fault s o))
  small_refused : (w k : ℕ) → w ≤ 2 → k ≤ 14 → Small (refused w k)

fields_length : {a : Answer} → Small a → length (led (verdict_fields a)) ≤ 49374
unfolding letters
fields_length (small_pass n p h k) =
    omega (
      arith,
      led-next (word "holds") (number n ∷ number p ∷ []),
      led-next (number n) (number p ∷ []),
      led-next (number p) [],
      led-none,
      digits_2 n h,
      digits_5 p k,
    )
fields_length (small_trace {E = E} {s = s} h w l) =
    omega (
      arith,
      led-next (word "trace-fault") (number (length s) ∷ events s),
      led-next (number (length s)) (events s),
      digits_5 (length s) (omega arith),
      events-length E h w,
    )
fields_length (small_refusal {E = E} {o = o} {s = s} h w l) =
    omega (
      arith,
      led-next (word "refusal-fault") (number (length s) ∷ (events s ++ offered o)),
      led-next (number (length s)) (events s ++ offered o),
      digits_5 (length s) (omega arith),
      led_then (events s) (offered o),
      events-length E h w,
      offered-length o,
    )
fields_length (small_refused w k h j) =
    omega (
      arith,
      led-next (word "refused") (number w ∷ number k ∷ []),
      led-next (number w) (number k ∷ []),
      led-next (number k) [],
      led-none,
      digits_2 w (omega arith),
      digits_2 k (omega arith),
    )

pub line_length : (mode : ℕ) (a : Answer) → Small a → length (report_line mode a) ≤ 50000
unfolding report_line line_of
line_length mode a h =
    omega (
      arith,
      length-append (apart (mode_word mode ∷ verdict_fields a)) (line_feed ∷ []),
      ap length (apart-led (mode_word mode) (verdict_fields a)),
      length-append (bytes_of (mode_word mode)) (led (verdict_fields a)),
      word_length mode,
      fields_length h,
    )
