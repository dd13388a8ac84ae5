-- The order of moves, and lists of moves that stand ascending: what stands in them determines them.
use Prim.Native.Nat.{ℕ, zero, suc, ◌<◌, ◌≤◌, ◌+◌, ◌*◌, ◌^◌, ◌%◌, ◌-◌}
use mathlib.Core.Bool.{Bool, true, false, cond, not, ◌&&◌, ◌||◌}
use mathlib.Core.Path.{◌≡◌, refl, sym, ap, ap₂, ◌∙◌, subst}
use mathlib.Core.Logic.{◌⊎◌, inl, inr, ⊎_elim}
use mathlib.Core.List.Memᴰ
use mathlib.Core.List.{List, [], ◌∷◌, ◌++◌, Memᴰ}
use native.Mathlib.Omega.{arith}
use native.Mathlib.Numerals.{add-one}
use native.Mathlib.Nat.{eq-or-lt_of_le, mod-eq_of_lt}
use native.Mathlib.Decide.{ℕ_discrete}
use lib.Dec.{eqb, ltb}
use mir.Val.{bool_byte}
use Rattle.std.specs.Bool.{FalseIff}
use Rattle.std.proofs.lemmas.Bool.{ltb_from_iff}
use borrow.Author.Tests.{ltb-true, eqb-true, not-false, lt-ltb, le-ltb, eq-eqb, ne_eqb}
use Rattle.csp.specs.Table.{Move}
use Rattle.tables.specs.Valid.{precedes, disordered}
use Rattle.tables.specs.Order.{Before, by_from, by_event, by_to, Ascending, none, more}
use Rattle.tables.specs.Bytes.{row}
use Rattle.tables.specs.Tests.{some}
use Rattle.tables.proofs.Some.{some-none, some_false}
use Rattle.tables.proofs.Rows.{in_row, of_row}

cond_cases : (t a b : Bool) → cond t a b ≡ true → ((t ≡ true) × (a ≡ true)) ⊎ ((t ≡ false) × (b ≡ true))
cond_cases true a b e = inl (refl, e)
cond_cases false a b e = inr (refl, e)

-- the test says what the order says
pub before : (a b : Move) → precedes a b ≡ true → Before a b
unfolding precedes
before a b h =
    ⊎_elim
    (λ w. ⊎_elim
    (λ v. by_to (eqb-true _ _ w.0) (eqb-true _ _ v.0) (ltb-true _ _ v.1))
    (λ v. by_event (eqb-true _ _ w.0) (ltb-true _ _ v.1))
    (cond_cases (eqb a.event b.event) _ _ w.1))
    (λ w. by_from (ltb-true _ _ w.1))
    (cond_cases (eqb a.from b.from) _ _ h)

-- each of the three comparisons decides where the earlier ones are equal
pub precedes_from : (a b : Move) → (a.from ≡ b.from → ⊥) → ltb a.from b.from ≡ precedes a b
unfolding precedes
precedes_from a b n = rw (ne_eqb a.from b.from n) refl

pub precedes_event : (a b : Move) → a.from ≡ b.from → (a.event ≡ b.event → ⊥) → ltb a.event b.event ≡ precedes a b
unfolding precedes
precedes_event a b e n = rw (eq-eqb a.from b.from e, ne_eqb a.event b.event n) refl

pub precedes_to : (a b : Move) → a.from ≡ b.from → a.event ≡ b.event → ltb a.to b.to ≡ precedes a b
unfolding precedes
precedes_to a b e f = rw (eq-eqb a.from b.from e, eq-eqb a.event b.event f) refl

-- two tests of which each holds where the other does are equal
same_test : {x y u v : ℕ} → (x < y → u < v) → (u < v → x < y) → ltb x y ≡ ltb u v
same_test f g = ltb_from_iff (λ h. f (ltb-true _ _ h), λ l. lt-ltb _ _ (g l))

-- a carry is 0 or 1, and a number is below itself with the carry just where that is 1
carry_most : (b : Bool) → bool_byte b ≤ 1
carry_most true = omega arith
carry_most false = omega arith

carry_alone : (x : ℕ) (b : Bool) → ltb x (x + bool_byte b) ≡ b
carry_alone x true = lt-ltb x (x + 1) (omega arith)
carry_alone x false = le-ltb x (x + 0) (omega arith)

-- the order as a sum: from and event are one number, and what to says is a carry on it
pub precedes_carried :
    (a b : Move) → a.event < 2 ^ 64 → b.event < 2 ^ 64 →
    ltb (a.from * 2 ^ 64 + a.event) (b.from * 2 ^ 64 + b.event + bool_byte (ltb a.to b.to)) ≡ precedes a b
precedes_carried a b h k = go (ℕ_discrete a.from b.from) (ℕ_discrete a.event b.event)
  where
    c : bool_byte (ltb a.to b.to) ≤ 1
    c = carry_most (ltb a.to b.to)

    go : Dec (a.from ≡ b.from) → Dec (a.event ≡ b.event) →
        ltb (a.from * 2 ^ 64 + a.event) (b.from * 2 ^ 64 + b.event + bool_byte (ltb a.to b.to)) ≡ precedes a b
    go (no n) d = same_test (λ l. omega (arith, c)) (λ l. omega (arith, c)) ∙ precedes_from a b n
    go (yes e) (no n) = same_test (λ l. omega (arith, c)) (λ l. omega (arith, c)) ∙ precedes_event a b e n
    go (yes e) (yes f) = rw (e, f) (carry_alone _ (ltb a.to b.to)) ∙ precedes_to a b e f

-- a sum past what the code counts is past each number that it counts, and any other is counted as it is
pub wrapped_or_below : {M x r : ℕ} (b : Bool) (s : ℕ) → x < M → FalseIff b (s < M) → r ≡ s % M → (b || ltb x r) ≡ ltb x s
wrapped_or_below {x = x} true s h o e = sym (lt-ltb x s (omega arith))
wrapped_or_below {x = x} false s h o e = ap (ltb x) (e ∙ mod-eq_of_lt o)

-- 6 of one move more, v: last is the move before it, if there is one
module _ (at : ℕ → Move) where
  step : (j : ℕ) (last : Move) → ((i : ℕ) → i + 1 ≡ j → last ≡ at i) →
      (disordered at j || (ltb 0 j && not (precedes last (at j)))) ≡ disordered at (j + 1)
  unfolding disordered some
  step zero last h = refl
  step (suc j) last h =
      let f : ℕ → Bool = λ i. not (precedes (at i) (at (i + 1))) in
      let a : suc j - 1 ≡ j = omega arith in
      let b : suc j ≡ suc j + 1 - 1 = omega arith in
      let one : (ltb 0 (suc j) && not (precedes last (at (suc j)))) ≡ f j =
      rw (lt-ltb 0 (suc j) (omega arith), h j (add-one j), add-one j) refl in
      ap₂ ◌||◌ (ap (some f) a) one ∙ ap (some f) b

  pub disordered_next :
      (j : ℕ) {d r : Bool} {last v : Move} → d ≡ disordered at j → v ≡ at j → ((i : ℕ) → i + 1 ≡ j → last ≡ at i) →
      r ≡ (d || (ltb 0 j && not (precedes last v))) → r ≡ disordered at (j + 1)
  disordered_next j {last = last} e p h k =
      k ∙ ap₂ (λ (x : Bool) (w : Move). x || (ltb 0 j && not (precedes last w))) e p ∙ step j last h

pub before_test : {a b : Move} → Before a b → precedes a b ≡ true
before_test {a} {b} (by_from h) = sym (precedes_from a b (λ e. omega arith)) ∙ lt-ltb _ _ h
before_test {a} {b} (by_event e h) = sym (precedes_event a b e (λ e. omega arith)) ∙ lt-ltb _ _ h
before_test {a} {b} (by_to e f h) = sym (precedes_to a b e f) ∙ lt-ltb _ _ h

pub before_from : {a b : Move} → Before a b → a.from ≤ b.from
before_from (by_from h) = omega arith
before_from (by_event e h) = omega arith
before_from (by_to e f h) = omega arith

pub before_irrefl : {a : Move} → Before a a → ⊥
before_irrefl (by_from h) = omega arith
before_irrefl (by_event e h) = omega arith
before_irrefl (by_to e f h) = omega arith

pub before_trans : {a b c : Move} → Before a b → Before b c → Before a c
before_trans {a} {c} (by_from h) (by_from k) = let j : a.from < c.from = omega arith in by_from j
before_trans {a} {c} (by_from h) (by_event e k) = let j : a.from < c.from = omega arith in by_from j
before_trans {a} {c} (by_from h) (by_to e f k) = let j : a.from < c.from = omega arith in by_from j
before_trans {a} {c} (by_event e h) (by_from k) = let j : a.from < c.from = omega arith in by_from j
before_trans {a} {c} (by_event e h) (by_event f k) = let j : a.event < c.event = omega arith in by_event (e ∙ f) j
before_trans {a} {c} (by_event e h) (by_to f g k) = let j : a.event < c.event = omega arith in by_event (e ∙ f) j
before_trans {a} {c} (by_to e f h) (by_from k) = let j : a.from < c.from = omega arith in by_from j
before_trans {a} {c} (by_to e f h) (by_event g k) = let j : a.event < c.event = omega arith in by_event (e ∙ g) j
before_trans {a} {c} (by_to e f h) (by_to g l k) = let j : a.to < c.to = omega arith in by_to (e ∙ g) (f ∙ l) j

-- Ascending lists with the same members are the same list.
pub ascending_unique :
    (l k : List Move) → Ascending l → Ascending k → ((x : Move) → Memᴰ x l → Memᴰ x k) →
    ((x : Move) → Memᴰ x k → Memᴰ x l) → l ≡ k
ascending_unique [] [] p q f g = refl
ascending_unique [] (b ∷ k) p q f g = absurd (Memᴰ.not-nil (g b (Memᴰ.head refl)))
ascending_unique (a ∷ l) [] p q f g = absurd (Memᴰ.not-nil (f a (Memᴰ.head refl)))
ascending_unique (a ∷ l) (b ∷ k) (more m p) (more n q) f g =
    ap₂ (λ (x : Move) (y : List Move). x ∷ y) same (ascending_unique l k p q (down l k m f same) (down k l n g (sym same)))
  where
    same : a ≡ b
    same = go (Memᴰ.cases_cons (f a (Memᴰ.head refl))) (Memᴰ.cases_cons (g b (Memᴰ.head refl)))
      where
        go : (a ≡ b) ⊎ Memᴰ a k → (b ≡ a) ⊎ Memᴰ b l → a ≡ b
        go (inl e) d = e
        go (inr h) (inl e) = sym e
        go (inr h) (inr i) = absurd (before_irrefl (before_trans (m b i) (n a h)))

    down : {a b : Move} (l k : List Move) → ((x : Move) → Memᴰ x l → Before a x) →
        ((x : Move) → Memᴰ x (a ∷ l) → Memᴰ x (b ∷ k)) → a ≡ b → (x : Move) → Memᴰ x l → Memᴰ x k
    down {a} {b} l k m f e x h = go (Memᴰ.cases_cons (f x (Memᴰ.tail h)))
      where
        go : (x ≡ b) ⊎ Memᴰ x k → Memᴰ x k
        go (inl d) = absurd (before_irrefl (subst (λ (y : Move). Before a y) (d ∙ sym e) (m x h)))
        go (inr i) = i

-- one move more, past all
pub ascending_snoc : (l : List Move) (v : Move) → Ascending l → ((x : Move) → Memᴰ x l → Before x v) → Ascending (l ++ (v ∷ []))
ascending_snoc [] v none h = more (λ x i. absurd (Memᴰ.not-nil i)) none
ascending_snoc (a ∷ l) v (more m r) h =
    more
    (λ x i. ⊎_elim (λ j. m x j)
    (λ j. subst (λ (y : Move). Before a y) (sym (Memᴰ.eq_of_singleton j)) (h a (Memᴰ.head refl)))
    (Memᴰ.append_cases l i))
    (ascending_snoc l v r (λ x i. h x (Memᴰ.tail i)))

ascending_front : (a b : List Move) → Ascending (a ++ b) → Ascending a
ascending_front [] b r = none
ascending_front (v ∷ a) b (more m r) = more (λ x i. m x (Memᴰ.append_left b i)) (ascending_front a b r)

ascending_across : (a b : List Move) (x y : Move) → Ascending (a ++ b) → Memᴰ x a → Memᴰ y b → Before x y
ascending_across [] b x y r i j = absurd (Memᴰ.not-nil i)
ascending_across (v ∷ a) b x y (more m r) i j =
    ⊎_elim
    (λ e. subst (λ (z : Move). Before z y) (sym e) (m y (Memᴰ.append_right a j)))
    (λ h. ascending_across a b x y r h j)
    (Memᴰ.cases_cons i)

module _ (at : ℕ → Move) (m : ℕ) (h : disordered at m ≡ false) where
  next : (j : ℕ) → j + 1 < m → Before (at j) (at (j + 1))
  unfolding disordered
  next j l = before (at j) (at (j + 1)) (not-false _ (some-none _ (m - 1) j h (omega arith)))

  climbs : (i d : ℕ) → i + suc d < m → Before (at i) (at (i + suc d))
  climbs i zero l = next i l
  climbs i (suc d) l =
      let e : i + suc d + 1 ≡ i + suc (suc d) = omega arith in
      rw e at (before_trans (climbs i d (omega arith)) (next (i + suc d) (omega arith)))

  -- each move stands before all later ones
  pub earlier : (i j : ℕ) → i < j → j < m → Before (at i) (at j)
  earlier i j a b =
      let e : i + suc (j - suc i) ≡ j = omega arith in
      rw e at (climbs i (j - suc i) (omega arith))

  -- later moves are of no lower state
  pub rising : (i j : ℕ) → i ≤ j → j < m → (at i).from ≤ (at j).from
  rising i j a b = ⊎_elim (λ e. rw e (omega arith)) (λ l. before_from (earlier i j l b)) (eq-or-lt_of_le a)

  front_ascending : (k : ℕ) → k ≤ m → Ascending (row at k)
  unfolding row
  front_ascending zero l = none
  front_ascending (suc k) l =
      ascending_snoc (row at k) (at k) (front_ascending k (omega arith))
      (λ x i. let s = of_row at k x i in subst (λ (y : Move). Before y (at k)) s.is (earlier s.number k s.below (omega arith)))

  pub row_ascending : Ascending (row at m)
  row_ascending = front_ascending m (omega arith)

row_before : (at : ℕ → Move) (m : ℕ) → Ascending (row at m) → (i j : ℕ) → i < j → j < m → Before (at i) (at j)
unfolding row
row_before at zero r i j a b = absurd (omega arith)
row_before at (suc m) r i j a b =
    let le : j ≤ m = omega arith in
    ⊎_elim
    (λ e. subst (λ (k : ℕ). Before (at i) (at k)) (sym e)
    (ascending_across (row at m) (at m ∷ []) (at i) (at m) r (in_row at m i (omega arith)) (Memᴰ.head refl)))
    (λ l. row_before at m (ascending_front (row at m) (at m ∷ []) r) i j a l)
    (eq-or-lt_of_le le)

-- 6 does not hold of a row that is ascending
pub ascending_row : (at : ℕ → Move) (m : ℕ) → Ascending (row at m) → disordered at m ≡ false
unfolding disordered
ascending_row at m r = some_false _ (m - 1) (λ j l. ap not (before_test (row_before at m r j (j + 1) (omega arith) (omega arith))))
