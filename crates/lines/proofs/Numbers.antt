-- Decimal numbers: what the definition gives, digit by digit.
use Prim.Native.Nat.{ℕ, zero, suc, ◌+◌, ◌-◌, ◌*◌, ◌/◌, ◌%◌, ◌≤◌, ◌<◌}
use mathlib.Core.Path.{◌≡◌, refl, sym, ap, ◌∙◌}
use mathlib.Core.List.{List, [], ◌∷◌, ◌++◌}
use mathlib.Core.Bool.{Bool, true, false, cond}
use native.Mathlib.Omega.{arith}
use native.Mathlib.Decide.{dec_lt}
use lib.Dec.{ltb}
use lib.ListN.{length, get_or, length-append, get_or-append}
use borrow.Author.Tests.{lt-ltb, le-ltb}
use Rattle.lines.specs.Text.{digit, digits, decimal}

digits_one : (t n : ℕ) → n < 10 → digits t n ≡ digit n ∷ []
unfolding digits
digits_one zero n h = refl
digits_one (suc t) n h = simp (lt-ltb n 10 h)

digits_more : (t n : ℕ) → 10 ≤ n → digits (suc t) n ≡ digits t (n / 10) ++ (digit (n % 10) ∷ [])
unfolding digits
digits_more t n h = simp (le-ltb n 10 h)

-- it does not matter by how much more often than needed one may divide
digits_same : (t u n : ℕ) → n ≤ t → n ≤ u → digits t n ≡ digits u n
digits_same zero u n h k = digits_one 0 n (omega arith) ∙ sym (digits_one u n (omega arith))
digits_same (suc t) zero n h k = digits_one (suc t) n (omega arith) ∙ sym (digits_one 0 n (omega arith))
digits_same (suc t) (suc u) n h k = go (dec_lt n 10) (digits_same t u (n / 10))
  where
    go : Dec (n < 10) → (n / 10 ≤ t → n / 10 ≤ u → digits t (n / 10) ≡ digits u (n / 10)) → digits (suc t) n ≡ digits (suc u) n
    go (yes l) f = digits_one (suc t) n l ∙ sym (digits_one (suc u) n l)
    go (no g) f =
        let l : 10 ≤ n = omega arith in
        digits_more t n l ∙ ap (λ (r : List ℕ). r ++ (digit (n % 10) ∷ [])) (f (omega arith) (omega arith)) ∙ sym (digits_more u n l)

-- a number below ten is one digit
pub decimal_one : (n : ℕ) → n < 10 → decimal n ≡ digit n ∷ []
unfolding decimal
decimal_one n h = digits_one n n h

-- every other is the number of its tens, and then its ones
pub decimal_more : (n : ℕ) → 10 ≤ n → decimal n ≡ decimal (n / 10) ++ (digit (n % 10) ∷ [])
unfolding decimal
decimal_more zero h = absurd (omega arith)
decimal_more (suc n) h =
    digits_more n (suc n) h
    ∙ ap (λ (r : List ℕ). r ++ (digit (suc n % 10) ∷ [])) (digits_same n (suc n / 10) (suc n / 10) (omega arith) (omega arith))

-- what a row of digits is worth, read from the left after a number
abbrev pub worth : ℕ → List ℕ → ℕ
worth a [] = a
worth a (d ∷ r) = worth (a * 10 + (d - digit 0)) r

worth_last : (a : ℕ) (r : List ℕ) (d : ℕ) → worth a (r ++ (digit d ∷ [])) ≡ worth a r * 10 + d
worth_last a [] d = omega arith
worth_last a (x ∷ r) d = worth_last (a * 10 + (x - digit 0)) r d

-- read again, it is the number
pub decimal_worth : (n : ℕ) → worth 0 (decimal n) ≡ n
unfolding decimal
decimal_worth n = go n n (omega arith)
  where
    go : (t n : ℕ) → n ≤ t → worth 0 (digits t n) ≡ n
    go zero n h = ap (worth 0) (digits_one 0 n (omega arith)) ∙ omega arith
    go (suc t) n h = at (dec_lt n 10) (go t (n / 10))
      where
        at : Dec (n < 10) → (n / 10 ≤ t → worth 0 (digits t (n / 10)) ≡ n / 10) → worth 0 (digits (suc t) n) ≡ n
        at (yes l) f = ap (worth 0) (digits_one (suc t) n l) ∙ omega arith
        at (no g) f =
            let e = worth_last 0 (digits t (n / 10)) (n % 10) in
            ap (worth 0) (digits_more t n (omega arith)) ∙ omega (arith, e, f (omega arith))

some-digit : (t n : ℕ) → 0 < length (digits t n)
unfolding digits
some-digit zero n = omega arith
some-digit (suc t) n = go (ltb n 10)
  where
    go : (b : Bool) → 0 < length (cond b (digit n ∷ []) (digits t (n / 10) ++ (digit (n % 10) ∷ [])))
    go true = omega arith
    go false = omega (arith, length-append (digits t (n / 10)) (digit (n % 10) ∷ []))

-- no number but 0 begins with a 0
pub decimal_lead : (n : ℕ) → get_or (decimal n) 0 0 ≡ digit 0 → n ≡ 0
unfolding decimal
decimal_lead n e = go n n (omega arith) e
  where
    one : (t n : ℕ) → n < 10 → get_or (digits t n) 0 0 ≡ digit 0 → n ≡ 0
    one t n h e = let k : digit n ≡ digit 0 = sym (ap (λ (l : List ℕ). get_or l 0 0) (digits_one t n h)) ∙ e in omega arith

    go : (t n : ℕ) → n ≤ t → get_or (digits t n) 0 0 ≡ digit 0 → n ≡ 0
    go zero n h e = omega arith
    go (suc t) n h e = at (dec_lt n 10) (go t (n / 10))
      where
        at : Dec (n < 10) → (n / 10 ≤ t → get_or (digits t (n / 10)) 0 0 ≡ digit 0 → n / 10 ≡ 0) → n ≡ 0
        at (yes l) f = one (suc t) n l e
        at (no g) f =
            let k : get_or (digits t (n / 10)) 0 0 ≡ digit 0 =
            sym (get_or-append (digits t (n / 10)) (digit (n % 10) ∷ []) 0 0 (some-digit t (n / 10)))
            ∙ sym (ap (λ (l : List ℕ). get_or l 0 0) (digits_more t n (omega arith)))
            ∙ e in
            omega (arith, f (omega arith) k)
