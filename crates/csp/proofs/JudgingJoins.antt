-- A test of the table of a join.
use mathlib.Core.Path.{◌≡◌, refl, subst}
use mathlib.Core.Bool.{Bool, true, false, Bool-discrete}
use mathlib.Core.Option.{Option}
use mathlib.Core.List.{Memᴰ}
use Prim.Native.Nat.{ℕ, ◌<◌, ◌+◌, ◌*◌, ◌/◌, ◌%◌, max}
use native.Mathlib.Decide.{ℕ_discrete, dec_lt}
use Rattle.csp.specs.Join.{shared, JoinMove, left, right, both as together}
use Rattle.csp.specs.Table.{Table, Move, move, lts}
use Rattle.csp.specs.Joined.{JoinedMove, Joined}
use Rattle.csp.proofs.Deciding.{dec_and}
use Rattle.csp.proofs.Tables.{mem?}
use Rattle.csp.proofs.Testing.{of_dec, map, both, either, unless, below, members}

module _ (a b : Table) (X : ℕ → Bool) where
  abbrev join-move : (p q e p' q' : ℕ) → Option (JoinMove (lts a) (lts b) X p q e p' q')
  join-move p q e p' q' =
      go (shared X e) refl (of_dec (mem? (move p e p') a.moves)) (of_dec (mem? (move q e q') b.moves))
    where
      go :
          (s : Bool) → shared X e ≡ s → Option (Memᴰ (move p e p') a.moves) →
          Option (Memᴰ (move q e q') b.moves) → Option (JoinMove (lts a) (lts b) X p q e p' q')
      go true h m n = map (λ g. together h g.0 g.1) (both m n)
      go false h m n =
          either
          (map
          (λ g. subst (λ (x : ℕ). JoinMove (lts a) (lts b) X p q e p' x) g.1 (left h g.0))
          (both m (of_dec (ℕ_discrete q q'))))
          (map
          (λ g. subst (λ (x : ℕ). JoinMove (lts a) (lts b) X p q e x q') g.1 (right h g.0))
          (both n (of_dec (ℕ_discrete p p'))))

  -- the pairs that x and y number
  abbrev joined_move : (x e y : ℕ) → Option (JoinedMove a b X x e y)
  joined_move x e y = go (x / b.n) (x % b.n) (y / b.n) (y % b.n)
    where
      go : (p q p' q' : ℕ) → Option (JoinedMove a b X x e y)
      go p q p' q' =
          map
          (λ g. record {
            p = p;
            q = q;
            p' = p';
            q' = q';
            p_below = g.0.0;
            q_below = g.0.1.0;
            x_is = g.0.1.1.0;
            y_is = g.0.1.1.1;
            by = g.1;
          })
          (both
          (of_dec
          (dec_and
          (dec_lt p a.n)
          (dec_and (dec_lt q b.n) (dec_and (ℕ_discrete x (p * b.n + q)) (ℕ_discrete y (p' * b.n + q'))))))
          (join-move p q e p' q'))

module _ (a b : Table) (X : ℕ → Bool) (t : Table) where
  abbrev pub Written : ℕ → ℕ → ℕ → ℕ → ℕ → Type 0
  Written p q e p' q' = Memᴰ (move (p * b.n + q) e (p' * b.n + q')) t.moves

  -- the moves of the join that the moves v of the first and w of the second have a part in
  abbrev pub FirstAlone : Move → Type 0
  FirstAlone v = (q : ℕ) → q < b.n → shared X v.event ≡ false → Written v.from q v.event v.to q

  abbrev pub SecondAlone : Move → Type 0
  SecondAlone w = (p : ℕ) → p < a.n → shared X w.event ≡ false → Written p w.from w.event p w.to

  abbrev pub Together : Move → Move → Type 0
  Together v w = (shared X v.event ≡ true) × (v.event ≡ w.event) → Written v.from w.from v.event v.to w.to

  module _
      (l : (v : Move) → Memᴰ v a.moves → FirstAlone v)
      (r : (w : Move) → Memᴰ w b.moves → SecondAlone w)
      (d : (v : Move) → Memᴰ v a.moves → (w : Move) → Memᴰ w b.moves → Together v w) where
    pair_whole : {p q e p' q' : ℕ} → p < a.n → q < b.n → JoinMove (lts a) (lts b) X p q e p' q' → Written p q e p' q'
    pair_whole {p} {q} {e} {p'} i j (left h m) = l (move p e p') m q j h
    pair_whole {p} {q} {e} {p'} {q'} i j (right h m) = r (move q e q') m p i h
    pair_whole {p} {q} {e} {p'} {q'} i j (together h m n) = d (move p e p') m (move q e q') n (h, refl)

    pub joined_whole : {x e y : ℕ} → JoinedMove a b X x e y → Memᴰ (move x e y) t.moves
    joined_whole m = rw (m.x_is, m.y_is) (pair_whole m.p_below m.q_below m.by)

  abbrev pub joined : Option (Joined a b X t)
  joined =
      map
      (λ g. record {
        n_is = g.0.0;
        E_is = g.0.1.0;
        start_is = g.0.1.1;
        sound = λ {x} {e} {y} h. g.1.0 (move x e y) h;
        whole = joined_whole g.1.1.0 g.1.1.1.0 g.1.1.1.1;
      })
      (both
      (of_dec
      (dec_and
      (ℕ_discrete t.n (a.n * b.n))
      (dec_and (ℕ_discrete t.E (max a.E b.E)) (ℕ_discrete t.start (a.start * b.n + b.start)))))
      (both
      (members t.moves (λ v. JoinedMove a b X v.from v.event v.to) (λ v. joined_move a b X v.from v.event v.to))
      (both
      (members a.moves FirstAlone (λ v. below b.n _ (λ q. unless (apart v) (in? _ _ _ _ _))))
      (both
      (members b.moves SecondAlone (λ w. below a.n _ (λ p. unless (apart w) (in? _ _ _ _ _))))
      (members a.moves _ (λ v. members b.moves (Together v) (λ w. unless (same v w) (in? _ _ _ _ _))))))))
    where
      apart : (v : Move) → Dec (shared X v.event ≡ false)
      apart v = Bool-discrete (shared X v.event) false

      same : (v w : Move) → Dec ((shared X v.event ≡ true) × (v.event ≡ w.event))
      same v w = dec_and (Bool-discrete (shared X v.event) true) (ℕ_discrete v.event w.event)

      in? : (p q e p' q' : ℕ) → Option (Written p q e p' q')
      in? p q e p' q' = of_dec (mem? (move (p * b.n + q) e (p' * b.n + q')) t.moves)
