-- Two groupings of one join have the same moves, number by number: (p × b + q) × c + r is p × (b × c) + (q × c + r).
use mathlib.Core.Path.{◌≡◌, refl, sym, ap, ◌∙◌}
use mathlib.Core.Bool.{Bool}
use Prim.Native.Nat.{ℕ, zero, suc, ◌+◌, ◌-◌, ◌*◌, ◌<◌}
use native.Mathlib.Omega.{arith}
use native.Mathlib.Decide.{dec_lt}
use lib.Arith.{digits_lt}
use Rattle.csp.specs.Lts.{Lts}
use Rattle.csp.specs.Join.{JoinMove, left, right, both, join}
use Rattle.csp.specs.Table.{Table, lts}
use Rattle.csp.specs.Joined.{JoinedMove, Joined}
use Rattle.csp.proofs.Grouping.{regroup, regroup_back}

-- the two parts of a pair's number
record Parts (n k x : ℕ) : Type 0 where
  p : ℕ
  q : ℕ
  p_below : p < n
  q_below : q < k
  is : x ≡ p * k + q

parts : (n k x : ℕ) → x < n * k → Parts n k x
parts zero k x h = absurd (omega arith)
parts (suc n) k x h = go (dec_lt x k) (λ l. parts n k (x - k) l)
  where
    go : Dec (x < k) → (x - k < n * k → Parts n k (x - k)) → Parts (suc n) k x
    go (yes l) f = let z : 0 < suc n = omega arith in record { p = 0; q = x; p_below = z; q_below = l; is = omega arith }
    go (no l) f =
        let g = f (omega arith) in
        let b : suc g.p < suc n = omega (arith, g.p_below) in
        let e : x ≡ suc g.p * k + g.q = omega (arith, g.is) in
        record { p = suc g.p; q = g.q; p_below = b; q_below = g.q_below; is = e }

-- A joined table beside another system: where its state is a pair's number, the pair may be put for it, and back.
module _ (a b ab : Table) (X : ℕ → Bool) (j : Joined a b X ab) where
  -- x and y are the numbers of two pairs, of which the first Goes to the second
  record Pairs (Goes : ℕ × ℕ → ℕ × ℕ → Type 0) (x y : ℕ) : Type 0 where
    p : ℕ
    q : ℕ
    p' : ℕ
    q' : ℕ
    p_below : p < a.n
    q_below : q < b.n
    x_is : x ≡ p * b.n + q
    y_is : y ≡ p' * b.n + q'
    by : Goes (p, q) (p', q')

  -- the joined table moves
  moves :
      {Goes : ℕ × ℕ → ℕ × ℕ → Type 0} {x e y : ℕ} →
      ((p q p' q' : ℕ) → JoinMove (lts a) (lts b) X p q e p' q' → Goes (p, q) (p', q')) → (lts ab).move x e y → Pairs Goes x y
  moves f m =
      let g = j.sound m in
      record {
        p = g.p;
        q = g.q;
        p' = g.p';
        q' = g.q';
        p_below = g.p_below;
        q_below = g.q_below;
        x_is = g.x_is;
        y_is = g.y_is;
        by = f g.p g.q g.p' g.q' g.by;
      }

  -- it stays
  stays : {Goes : ℕ × ℕ → ℕ × ℕ → Type 0} {x : ℕ} → ((z : ℕ × ℕ) → Goes z z) → x < a.n * b.n → Pairs Goes x x
  stays {x = x} f l =
      let g = parts a.n b.n x l in
      record {
        p = g.p;
        q = g.q;
        p' = g.p;
        q' = g.q;
        p_below = g.p_below;
        q_below = g.q_below;
        x_is = g.is;
        y_is = g.is;
        by = f (g.p, g.q);
      }

  one_move :
      {p q p' q' e : ℕ} → p < a.n → q < b.n → JoinMove (lts a) (lts b) X p q e p' q' →
      JoinedMove a b X (p * b.n + q) e (p' * b.n + q')
  one_move {p} {q} {p'} {q'} h k m =
      record { p = p; q = q; p' = p'; q' = q'; p_below = h; q_below = k; x_is = refl; y_is = refl; by = m }

  module _ (C : Lts) where
    first_pair :
        {x y e : ℕ} {r r' : C.State} → x < a.n * b.n → JoinMove (lts ab) C X x r e y r' →
        Pairs (λ u v. JoinMove (join (lts a) (lts b) X) C X u r e v r') x y
    first_pair l (left s m) = moves (λ p q p' q' k. left s k) m
    first_pair l (right s m) = stays (λ z. right s m) l
    first_pair l (both s m n) = moves (λ p q p' q' k. both s k n) m

    second_pair :
        {x y e : ℕ} {r r' : C.State} → x < a.n * b.n → JoinMove C (lts ab) X r x e r' y →
        Pairs (λ u v. JoinMove C (join (lts a) (lts b) X) X r u e r' v) x y
    second_pair l (right s m) = moves (λ p q p' q' k. right s k) m
    second_pair l (left s m) = stays (λ z. left s m) l
    second_pair l (both s m n) = moves (λ p q p' q' k. both s m k) n

    first_number :
        {e : ℕ} {x y : ℕ × ℕ} {r r' : C.State} → x.0 < a.n → x.1 < b.n →
        JoinMove (join (lts a) (lts b) X) C X x r e y r' →
        JoinMove (lts ab) C X (x.0 * b.n + x.1) r e (y.0 * b.n + y.1) r'
    first_number h k (left s m) = left s (j.whole (one_move h k m))
    first_number h k (right s m) = right s m
    first_number h k (both s m n) = both s (j.whole (one_move h k m)) n

    second_number :
        {e : ℕ} {x y : ℕ × ℕ} {r r' : C.State} → x.0 < a.n → x.1 < b.n →
        JoinMove C (join (lts a) (lts b) X) X r x e r' y →
        JoinMove C (lts ab) X r (x.0 * b.n + x.1) e r' (y.0 * b.n + y.1)
    second_number h k (left s m) = left s m
    second_number h k (right s m) = right s (j.whole (one_move h k m))
    second_number h k (both s m n) = both s m (j.whole (one_move h k n))

module _ (a b c ab bc : Table) (X : ℕ → Bool) (jab : Joined a b X ab) (jbc : Joined b c X bc) where
  -- the number of a triple, grouped either way
  triple : (p q r : ℕ) → (p * b.n + q) * c.n + r ≡ p * bc.n + (q * c.n + r)
  triple p q r = let e : (p * b.n + q) * c.n + r ≡ p * (b.n * c.n) + (q * c.n + r) = omega arith in
      e ∙ ap (λ (k : ℕ). p * k + (q * c.n + r)) (sym jbc.n_is)

  pub move_right : {x e y : ℕ} → JoinedMove ab c X x e y → JoinedMove a bc X x e y
  move_right {x} {e} {y} g =
      let f = first_pair a b ab X jab (lts c) (subst_below g.p_below) g.by in
      record {
        p = f.p;
        q = f.q * c.n + g.q;
        p' = f.p';
        q' = f.q' * c.n + g.q';
        p_below = f.p_below;
        q_below = omega (arith, digits_lt f.q_below g.q_below, jbc.n_is);
        x_is = g.x_is ∙ ap (λ (k : ℕ). k * c.n + g.q) f.x_is ∙ triple f.p f.q g.q;
        y_is = g.y_is ∙ ap (λ (k : ℕ). k * c.n + g.q') f.y_is ∙ triple f.p' f.q' g.q';
        by =
            second_number b c bc X jbc (lts a) f.q_below g.q_below
            (regroup (lts a) (lts b) (lts c) X f.by);
      }
    where
      subst_below : {k : ℕ} → k < ab.n → k < a.n * b.n
      subst_below h = omega (arith, jab.n_is)

  pub move_left : {x e y : ℕ} → JoinedMove a bc X x e y → JoinedMove ab c X x e y
  move_left {x} {e} {y} g =
      let f = second_pair b c bc X jbc (lts a) (subst_below g.q_below) g.by in
      record {
        p = g.p * b.n + f.p;
        q = f.q;
        p' = g.p' * b.n + f.p';
        q' = f.q';
        p_below = omega (arith, digits_lt g.p_below f.p_below, jab.n_is);
        q_below = f.q_below;
        x_is = g.x_is ∙ ap (λ (k : ℕ). g.p * bc.n + k) f.x_is ∙ sym (triple g.p f.p f.q);
        y_is = g.y_is ∙ ap (λ (k : ℕ). g.p' * bc.n + k) f.y_is ∙ sym (triple g.p' f.p' f.q');
        by =
            first_number a b ab X jab (lts c) g.p_below f.p_below
            (regroup_back (lts a) (lts b) (lts c) X f.by);
      }
    where
      subst_below : {k : ℕ} → k < bc.n → k < b.n * c.n
      subst_below h = omega (arith, jbc.n_is)
