-- A test of the table of a watchdog.
use mathlib.Core.Path.{◌≡◌, refl, sym, subst}
use mathlib.Core.Option.{Option, none, some}
use mathlib.Core.List.{List, Memᴰ}
use Prim.Native.Nat.{ℕ, zero, suc, ◌<◌, ◌≤◌}
use native.Mathlib.Omega.{arith}
use native.Mathlib.Decide.{ℕ_discrete, dec_lt}
use lib.ListN.{length}
use Rattle.csp.specs.Table.{Table, move, lts, Fits}
use Rattle.csp.specs.Numbered.{At}
use Rattle.sets.specs.Sets.{Has}
use Rattle.csp.specs.Normal.{Step, NextNode, NormalForm}
use Rattle.csp.specs.Watchdog.{WatchMove, goes, falls, cries, Watches}
use Rattle.csp.proofs.Deciding.{dec_and}
use Rattle.csp.proofs.Tables.{mem?}
use Rattle.csp.proofs.Places.{at_below, at_get, at_only, place?}
use Rattle.csp.proofs.Forms.{succ_set, succ_to, succ_from, succ_none, event_low, nodes, nodes_form}
use Rattle.csp.proofs.Testing.{of_dec, map, then, both, below, members}
use Rattle.csp.proofs.Judging.{fuel}

module _ (rule : Table) (f : Fits rule) (l : List ℕ) (N : NormalForm rule l) where
  -- The watchdog goes by e from the node a to j, and nowhere else.
  pub record Next (a e j : ℕ) : Type 0 where
    pub by : {i : ℕ} → At l i a → WatchMove rule l i e j
    pub only : {i j' : ℕ} → At l i a → WatchMove rule l i e j' → j' ≡ j

  succ_at :
      {a a' b e i : ℕ} → At l i a → At l i a' → NextNode (lts rule) Has a' e b → succ_set rule f a e ≡ some b
  succ_at {a} {a'} {b} {e} p q n =
      succ_to rule f a b e (subst (λ (x : ℕ). NextNode (lts rule) Has x e b) (at_only q p) n)

  only_goes :
      {a b e i j j' : ℕ} → succ_set rule f a e ≡ some b → At l j b → At l i a → WatchMove rule l i e j' → j' ≡ j
  only_goes {b} {j} {j'} h t p (goes {b = b'} q n u) =
      let k = succ_at p q n in
      let same : b' ≡ b = cc in
      N.once j' j b (subst (λ (x : ℕ). At l j' x) same u) t
  only_goes {a} {b} {e} h t p (falls q x y n) =
      let k = succ_from rule f a b e h in
      absurd (n k.one (subst (λ (x : ℕ). Step (lts rule) (Has x) e k.one) (at_only p q) (k.holds.only k.one k.has_one)))
  only_goes h t p cries = absurd (omega (arith, at_below p))

  only_falls :
      {a e i j' : ℕ} → succ_set rule f a e ≡ none → At l i a → WatchMove rule l i e j' → j' ≡ length l
  only_falls h p (goes q n u) =
      let k = succ_at p q n in
      absurd (let z : ◌≡◌ {A = ℕ} 0 1 = cc in omega arith)
  only_falls h p (falls q x y n) = refl
  only_falls h p cries = refl

  pub next_goes : {a b e j : ℕ} → succ_set rule f a e ≡ some b → At l j b → Next a e j
  next_goes {a} {b} {e} h t = record { by = λ p. goes p (succ_from rule f a b e h) t; only = λ p m. only_goes h t p m }

  pub next_falls : {a e : ℕ} → succ_set rule f a e ≡ none → (0 < e) × (e < suc rule.E) → Next a e (length l)
  next_falls {a} {e} h v = record {
    by = λ p. falls p v.0 (omega (arith, v.1)) (succ_none rule f a e h);
    only = λ p m. only_falls h p m;
  }

  abbrev next : (a e : ℕ) → Option ((j : ℕ) × Next a e j)
  next a e = go (succ_set rule f a e) refl
    where
      go : (o : Option ℕ) → succ_set rule f a e ≡ o → Option ((j : ℕ) × Next a e j)
      go (some b) h = map (λ p. (p.0, next_goes h p.1)) (of_dec (place? ℕ_discrete l b))
      go none h = map (λ v. (length l, next_falls h v)) (of_dec (dec_and (dec_lt 0 e) (dec_lt e (suc rule.E))))

  pub cries_at :
      {i e j : ℕ} → (i ≡ length l) × ((e ≡ suc rule.E) × (j ≡ length l)) → WatchMove rule l i e j
  cries_at h = rw (h.0, h.1.0, h.1.1) cries

  abbrev watch_move : (i e j : ℕ) → Option (WatchMove rule l i e j)
  watch_move i e j = go (dec_lt i (length l))
    where
      go : Dec (i < length l) → Option (WatchMove rule l i e j)
      go (yes h) =
          then
          (next (at_get l i h).0 e)
          (λ n.
          map
          (λ (k : n.0 ≡ j). subst (λ (x : ℕ). WatchMove rule l i e x) k (n.1.by (at_get l i h).1))
          (of_dec (ℕ_discrete n.0 j)))
      go (no h) =
          map
          cries_at
          (of_dec (dec_and (ℕ_discrete i (length l)) (dec_and (ℕ_discrete e (suc rule.E)) (ℕ_discrete j (length l)))))

  module _ (t : Table) where
    abbrev pub Written : ℕ → ℕ → Type 0
    Written i e = (j : ℕ) → WatchMove rule l i e j → Memᴰ (move i e j) t.moves

    abbrev written : (i e : ℕ) → Option (Written i e)
    written i e = go (dec_lt i (length l))
      where
        go : Dec (i < length l) → Option (Written i e)
        go (no h) = none
        go (yes h) =
            then
            (next (at_get l i h).0 e)
            (λ n.
            map
            (λ m j w. subst (λ (x : ℕ). Memᴰ (move i e x) t.moves) (sym (n.1.only (at_get l i h).1 w)) m)
            (of_dec (mem? (move i e n.0) t.moves)))

    module _
        (g : (i : ℕ) → i < length l → (e : ℕ) → e < rule.E → Written i (suc e))
        (c : Memᴰ (move (length l) (suc rule.E) (length l)) t.moves) where
      at_node : (i e : ℕ) → i < length l → 0 < e → e ≤ rule.E → Written i e
      at_node i zero h v u = absurd (omega arith)
      at_node i (suc e) h v u = g i h e (omega arith)

      pub watch_whole : {i e j : ℕ} → WatchMove rule l i e j → Memᴰ (move i e j) t.moves
      watch_whole {i} {e} {j} (goes {a = a} {b = b} p n q) =
          at_node i e (at_below p) (n.holds.only n.one n.has_one).seen (omega (arith, event_low rule f a b e n)) j (goes p n q)
      watch_whole {i} {e} {j} (falls p v u n) = at_node i e (at_below p) v u j (falls p v u n)
      watch_whole cries = c

    abbrev pub watches : Option (Watches rule l t)
    watches =
        map
        (λ g. record {
          n_is = g.0.0;
          E_is = g.0.1.0;
          start_is = g.0.1.1.0;
          sound = λ {i} {e} {j} h. g.1.0 (move i e j) h;
          whole = watch_whole g.1.1 g.0.1.1.1;
        })
        (both
        (of_dec
        (dec_and
        (ℕ_discrete t.n (suc (length l)))
        (dec_and
        (ℕ_discrete t.E (suc rule.E))
        (dec_and (ℕ_discrete t.start 0) (mem? (move (length l) (suc rule.E) (length l)) t.moves)))))
        (both
        (members t.moves (λ v. WatchMove rule l v.from v.event v.to) (λ v. watch_move v.from v.event v.to))
        (below (length l) _ (λ i. below rule.E (λ e. Written i (suc e)) (λ e. written i (suc e))))))

-- The whole test of a watchdog, whose nodes are computed.
abbrev pub watched :
    (rule : Table) → Fits rule → (t : Table) → Option ((l : List ℕ) × (NormalForm rule l × Watches rule l t))
watched rule f t = then (of_dec (dec_lt (length (nodes rule f fuel)) (suc fuel))) (λ h. over (nodes_form rule f fuel (omega arith)))
  where
    over : NormalForm rule (nodes rule f fuel) → Option ((l : List ℕ) × (NormalForm rule l × Watches rule l t))
    over N = map (λ w. (nodes rule f fuel, (N, w))) (watches rule f (nodes rule f fuel) N t)
