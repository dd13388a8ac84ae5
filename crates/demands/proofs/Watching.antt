-- The watchdog theorem, of the calls.
use mathlib.Core.Path.{◌≡◌, refl, sym, ap, ◌∙◌, subst}
use mathlib.Core.Bool.{Bool}
use mathlib.Core.Logic.{◌↔◌}
use mathlib.Core.List.{List}
use Rattle.std.specs.Prelude.{None}
use Prim.Native.Nat.{ℕ, zero, suc, ◌<◌, ◌≤◌}
use native.Mathlib.Omega.{arith}
use native.Mathlib.Decide.{dec_lt}
use borrow.Author.Tests.{eq-eqb, ne_eqb, le-leb, lt-leb}
use lib.ListN.{take}
use lib.Seq.{take_at}
use Rattle.sets.specs.Sets.{bit, has}
use Rattle.csp.specs.Lts.{Lts, Can}
use Rattle.csp.specs.Bisim.{Bisim}
use Rattle.csp.specs.Fault.{TraceFault, of_trace}
use Rattle.csp.specs.Join.{JoinMove, left, right, both, join, shared}
use Rattle.csp.specs.Table.{lts}
use Rattle.csp.specs.Watchdog.{up_to}
use Rattle.csp.proofs.Bisimilar.{bisim_sym, iso_bisim}
use Rattle.csp.proofs.Faults.{pass_excludes}
use Rattle.csp.proofs.Tables.{offers?}
use Rattle.csp.proofs.Watched.{can_forth, watchdog_first, watchdog_second}
use Rattle.tables.specs.Bytes.{events, table_of}
use Rattle.tables.specs.Valid.{refusal}
use Rattle.tables.proofs.Proper.{fits}
use Rattle.joins.proofs.Unique.{made_bisim}
use Rattle.watchdog.specs.Asking.{Made}
use Rattle.watchdog.proofs.Carried.{call_left}
use Rattle.demands.specs.Calls.{WatchdogWrote}
use Rattle.demands.specs.Promises.{OneTo, Watched, WatchdogFirst, WatchdogSecond}
use Rattle.demands.proofs.Checking.{passed, broke, will_break}
use Rattle.demands.proofs.Kept.{join_is}

-- Two sets that share the same events join alike.
module _ (A B : Lts) (X Y : ℕ → Bool) (same : (e : ℕ) → shared X e ≡ shared Y e) where
  by_other : {p p' : A.State} {q q' : B.State} {e : ℕ} → JoinMove A B X p q e p' q' → JoinMove A B Y p q e p' q'
  by_other {e} (left h m) = left (sym (same e) ∙ h) m
  by_other {e} (right h m) = right (sym (same e) ∙ h) m
  by_other {e} (both h m n) = both (sym (same e) ∙ h) m n

sets_bisim : (A B : Lts) (X Y : ℕ → Bool) → ((e : ℕ) → shared X e ≡ shared Y e) → Bisim (join A B X) (join A B Y)
sets_bisim A B X Y same =
    iso_bisim (join A B X) (join A B Y) (λ x. x) (λ y. y) (λ y. refl) (λ x. refl) refl
    (λ x x' e m. by_other A B X Y same m) (λ y y' e m. by_other A B Y X (λ d. sym (same d)) m)

one_to : (E X : ℕ) → OneTo E X → (e : ℕ) → shared (has X) e ≡ shared (up_to E) e
one_to E X h zero = refl
one_to E X h (suc e) = go (dec_lt E (suc e))
  where
    go : Dec (E < suc e) → has X (suc e) ≡ up_to E (suc e)
    go (yes l) =
        let n : bit X (suc e) ≡ 1 → ⊥ = λ i. omega (arith, (h.only (suc e) i).1) in
        ne_eqb (bit X (suc e)) 1 n ∙ sym (lt-leb (suc e) E l)
    go (no l) =
        let k : suc e ≤ E = omega arith in
        let z : 0 < suc e = omega arith in
        eq-eqb (bit X (suc e)) 1 (h.all (suc e) (z, k)) ∙ sym (le-leb (suc e) E k)

-- what a builder's call wrote
record DogIs (asked t : List ℕ) : Type 0 where
  good : refusal asked ≡ None
  made : Made (table_of asked) t

dog_is : {asked t : List ℕ} → WatchdogWrote asked t → DogIs asked t
dog_is {asked} {t} w =
    let g = call_left asked w.work16 w.work64 w.old w.size w.call in
    let e : take w.size w.new ≡ g.table = ap (λ (l : List ℕ). take w.size l) g.left ∙ take_at g.table _ w.size g.size in
    record { good = g.good; made = subst (Made (table_of asked)) (sym (w.is ∙ e)) g.made }

-- where crying is having a trace fault, the calls agree
calls_agree :
    (rule flow t : List ℕ) →
    Can (lts (table_of t)) (suc (events rule)) ↔ ((s : List ℕ) × TraceFault (lts (table_of flow)) (lts (table_of rule)) s) →
    Watched rule flow t
calls_agree rule flow t h = record {
  cries = λ c. let f = h.0 c in will_break rule flow f.0 f.1;
  broke = λ b. h.1 (broke b);
  silent = λ p c.
      let f = h.0 c in
      pass_excludes 0 (lts (table_of flow)) (lts (table_of rule)) (offers? (table_of flow)) (passed p).passes f.0 (of_trace f.1);
}

-- .. and that may be known of the join that the table is one of, on events 1 to E.
through :
    (rule flow t : List ℕ) (X : ℕ) (A B : Lts) → OneTo (events rule) X → Bisim (join A B (has X)) (lts (table_of t)) →
    Can (join A B (up_to (events rule))) (suc (events rule)) ↔
    ((s : List ℕ) × TraceFault (lts (table_of flow)) (lts (table_of rule)) s) → Watched rule flow t
through rule flow t X A B one b th =
    let c = sets_bisim A B (has X) (up_to (events rule)) (one_to (events rule) X one) in
    calls_agree rule flow t
    (λ k. th.0 (can_forth c (can_forth (bisim_sym b) k)), λ f. can_forth b (can_forth (bisim_sym c) (th.1 f)))

pub watchdog_goes_first : WatchdogFirst
watchdog_goes_first rule flow dog t X same one w j =
    let d = dog_is w in
    let g = join_is j in
    through rule flow t X (lts (table_of dog)) (lts (table_of flow)) one
    (made_bisim dog flow g.first_good g.second_good g.made)
    (watchdog_first (table_of rule) d.made.nodes (table_of dog) d.made.watches (table_of flow) (fits flow g.second_good)
    (fits rule d.good) same d.made.normal)

pub watchdog_goes_second : WatchdogSecond
watchdog_goes_second rule flow dog t X same one w j =
    let d = dog_is w in
    let g = join_is j in
    through rule flow t X (lts (table_of flow)) (lts (table_of dog)) one
    (made_bisim flow dog g.first_good g.second_good g.made)
    (watchdog_second (table_of rule) d.made.nodes (table_of dog) d.made.watches (table_of flow) (fits flow g.first_good)
    (fits rule d.good) same d.made.normal)
