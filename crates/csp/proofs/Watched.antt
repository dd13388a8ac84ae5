-- The watchdog as a table: the watchdog theorem holds of it, joined as the first table or as the second.
use mathlib.Core.Path.{◌≡◌, refl, sym, subst}
use mathlib.Core.Bool.{Bool}
use mathlib.Core.Logic.{◌↔◌}
use mathlib.Core.List.{List}
use Prim.Native.Nat.{ℕ, suc}
use Rattle.csp.specs.Lts.{Lts, Can}
use Rattle.csp.specs.Bisim.{Bisim}
use Rattle.csp.specs.Fault.{TraceFault}
use Rattle.csp.specs.Join.{JoinMove, left, right, both, join}
use Rattle.csp.specs.Table.{Table, lts, Fits}
use Rattle.csp.specs.Normal.{NormalForm}
use Rattle.csp.specs.Watchdog.{WatchMove, watchdog, Watches, up_to}
use Rattle.csp.proofs.Bisimilar.{bisim_sym, run_forth}
use Rattle.csp.proofs.Grouping.{join_comm}
use Rattle.csp.proofs.Watching.{watchdog_theorem}

-- What can occur in a system can occur in one that does the same.
pub can_forth : {A B : Lts} → Bisim A B → {e : ℕ} → Can A e → Can B e
can_forth b c =
    let g = run_forth b b.start c.run in
    let k = b.forth g.2 c.offers.by in
    record { trace = c.trace; at = g.0; run = g.1; offers = record { seen = c.offers.seen; to = k.0; by = k.1 } }

-- The first part of a join may be put for one that does the same.
module _ (A B C : Lts) (X : ℕ → Bool) (b : Bisim A B) where
  abbrev Beside : A.State × C.State → B.State × C.State → Type 0
  Beside x y = b.rel x.0 y.0 × (x.1 ≡ y.1)

  forth_at :
      {p p' : A.State} {r : B.State} {q q' : C.State} {e : ℕ} → b.rel p r → JoinMove A C X p q e p' q' →
      (y : B.State × C.State) × JoinMove B C X r q e y.0 y.1 × Beside (p', q') y
  forth_at {q} s (left h m) = let f = b.forth s m in ((f.0, q), left h f.1, (f.2, refl))
  forth_at {r} {q'} s (right h m) = ((r, q'), right h m, (s, refl))
  forth_at {q'} s (both h m n) = let f = b.forth s m in ((f.0, q'), both h f.1 n, (f.2, refl))

  back_at :
      {p : A.State} {r r' : B.State} {q q' : C.State} {e : ℕ} → b.rel p r → JoinMove B C X r q e r' q' →
      (x : A.State × C.State) × JoinMove A C X p q e x.0 x.1 × Beside x (r', q')
  back_at {q} s (left h m) = let f = b.back s m in ((f.0, q), left h f.1, (f.2, refl))
  back_at {p} {q'} s (right h m) = ((p, q'), right h m, (s, refl))
  back_at {q'} s (both h m n) = let f = b.back s m in ((f.0, q'), both h f.1 n, (f.2, refl))

  pub join_bisim : Bisim (join A C X) (join B C X)
  join_bisim = record {
    rel = Beside;
    start = (b.start, refl);
    forth = λ {x} {x'} {y} {e} s m.
        forth_at s.0 (subst (λ (q : C.State). JoinMove A C X x.0 q e x'.0 x'.1) s.1 m);
    back = λ {x} {y} {y'} {e} s m.
        back_at s.0 (subst (λ (q : C.State). JoinMove B C X y.0 q e y'.0 y'.1) (sym s.1) m);
  }

module _ (rule : Table) (nodes : List ℕ) (t : Table) (w : Watches rule nodes t) where
  pub watches_bisim : Bisim (watchdog rule nodes) (lts t)
  watches_bisim = record {
    rel = λ i j. i ≡ j;
    start = sym w.start_is;
    forth = λ {x} {x'} {y} {e} s m. (x', w.whole (subst (λ (i : ℕ). WatchMove rule nodes i e x') s m), refl);
    back = λ {x} {y} {y'} {e} s m. (y', subst (λ (i : ℕ). WatchMove rule nodes i e y') (sym s) (w.sound m), refl);
  }

  module _ (flow : Table) (fi : Fits flow) (fs : Fits rule) (same_E : flow.E ≡ rule.E) (N : NormalForm rule nodes) where
    abbrev Faulty : Type 0
    Faulty = (s : List ℕ) × TraceFault (lts flow) (lts rule) s

    beside : Bisim (join (watchdog rule nodes) (lts flow) (up_to rule.E)) (join (lts t) (lts flow) (up_to rule.E))
    beside = join_bisim (watchdog rule nodes) (lts t) (lts flow) (up_to rule.E) watches_bisim

    turned : Bisim (join (lts t) (lts flow) (up_to rule.E)) (join (lts flow) (lts t) (up_to rule.E))
    turned = join_comm (lts t) (lts flow) (up_to rule.E)

    pub watchdog_first : Can (join (lts t) (lts flow) (up_to rule.E)) (suc rule.E) ↔ Faulty
    watchdog_first =
        let g = watchdog_theorem flow rule fi fs same_E nodes N in
        (λ c. g.0 (can_forth (bisim_sym beside) c), λ f. can_forth beside (g.1 f))

    pub watchdog_second : Can (join (lts flow) (lts t) (up_to rule.E)) (suc rule.E) ↔ Faulty
    watchdog_second = (λ c. watchdog_first.0 (can_forth (bisim_sym turned) c), λ f. can_forth turned (watchdog_first.1 f))
