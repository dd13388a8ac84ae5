-- "Joined on events 1 to E with a flow of the rule's E, limits on joins set aside, event E + 1 can occur exactly when the
-- flow has a trace fault."
use mathlib.Core.Path.{◌≡◌, refl, sym, ◌∙◌, subst}
use mathlib.Core.Bool.{true, false}
use mathlib.Core.Logic.{◌↔◌}
use mathlib.Core.List.{List, [], ◌∷◌, ◌++◌}
use Prim.Native.Nat.{ℕ, zero, suc, ◌<◌, ◌≤◌}
use native.Mathlib.Omega.{arith}
use lib.ListN.{length}
use borrow.Author.Tests.{leb-true, le-leb, lt-leb}
use Rattle.csp.specs.Lts.{Run, stop, quiet, mark, Can}
use Rattle.csp.specs.Fault.{TraceFault}
use Rattle.csp.specs.Join.{shared, JoinMove, left, right, both, join}
use Rattle.csp.specs.Table.{Table, lts, Fits}
use Rattle.sets.specs.Sets.{Has}
use Rattle.csp.specs.Numbered.{At}
use Rattle.csp.specs.Normal.{Step, NextNode, NormalForm}
use Rattle.csp.specs.Verdict.{Met}
use Rattle.csp.specs.Watchdog.{WatchMove, goes, falls, cries, watchdog, up_to}
use Rattle.csp.proofs.Runs.{run_mark, run_keeps}
use Rattle.csp.proofs.Joining.{no_both}
use Rattle.csp.proofs.Places.{at_below, at_only}
use Rattle.csp.proofs.PairFaults.{Ends, pair→trace_fault, trace_fault→pair}
use Rattle.csp.proofs.Product

in_set : (E e : ℕ) → 0 < e → e ≤ E → shared (up_to E) e ≡ true
in_set E zero v h = absurd (omega arith)
in_set E (suc e) v h = le-leb (suc e) E h

of_set : (E e : ℕ) → shared (up_to E) e ≡ true → e ≤ E
of_set E zero h = absurd (no_both h)
of_set E (suc e) h = leb-true (suc e) E h

not_set : (E e : ℕ) → shared (up_to E) e ≡ false → 0 < e → e ≤ E → ⊥
not_set E e h v k = no_both (sym h ∙ in_set E e v k)

-- A watchdog's state w beside a flow's state q: both are met by some trace, or there is a fault.
data Beside (flow rule : Table) (nodes : List ℕ) (w q : ℕ) : Type 0 where
  good : (s : List ℕ) → Met flow rule nodes s w q → Beside flow rule nodes w q
  bad : w ≡ length nodes → (s : List ℕ) → TraceFault (lts flow) (lts rule) s → Beside flow rule nodes w q

module _ (flow rule : Table) (fi : Fits flow) (fs : Fits rule) (same_E : flow.E ≡ rule.E) (nodes : List ℕ) (N : NormalForm rule nodes) where
  small : {q q' e : ℕ} → (lts flow).move q e q' → e ≤ rule.E
  small m = omega (arith, fi.event_upto m)

  keep_quiet : {w q q' : ℕ} → (lts flow).move q 0 q' → Beside flow rule nodes w q → Beside flow rule nodes w q'
  keep_quiet m (good s v) = good s (Product.met_quiet flow rule nodes refl v (Product.stays m))
  keep_quiet m (bad h s f) = bad h s f

  keep_go :
      {w w' e a b q q' : ℕ} → At nodes w a → NextNode (lts rule) Has a e b → At nodes w' b → (lts flow).move q e q' →
      Beside flow rule nodes w q → Beside flow rule nodes w' q'
  keep_go {e} {a} {b} at n at' m (good s v) =
      let seen = (n.holds.only n.one n.has_one).seen in
      good
      (s ++ (e ∷ []))
      (Product.met_mark flow rule nodes s seen v
      (Product.goes seen (record { from = a; to = b; at_from = at; at_to = at'; next = n }) m))
  keep_go at n at' m (bad h s f) = absurd (omega (arith, at_below at))

  keep_fall :
      {w e a q q' : ℕ} → At nodes w a → 0 < e → ((y : ℕ) → Step (lts rule) (Has a) e y → ⊥) → (lts flow).move q e q' →
      Beside flow rule nodes w q → Beside flow rule nodes (length nodes) q'
  keep_fall {w} {e} {q} {q'} at v n m (good s g) =
      bad
      refl
      (s ++ (e ∷ []))
      (pair→trace_fault flow rule nodes N (record {
        i = w;
        q = q;
        met = g;
        offers = record { seen = v; to = q'; by = m };
        ends = subst (λ (x : ℕ). Ends rule x e) (at_only at g.at) n;
      }))
  keep_fall at v n m (bad h s f) = absurd (omega (arith, at_below at))

  keep_both :
      {w w' e q q' : ℕ} → e ≤ rule.E → WatchMove rule nodes w e w' → (lts flow).move q e q' →
      Beside flow rule nodes w q → Beside flow rule nodes w' q'
  keep_both h (goes at n at') m i = keep_go at n at' m i
  keep_both h (falls at v k n) m i = keep_fall at v n m i
  keep_both h cries m i = absurd (omega arith)

  seen_low : {e a b : ℕ} → NextNode (lts rule) Has a e b → (0 < e) × (e ≤ rule.E)
  seen_low n = let st = n.holds.only n.one n.has_one in (st.seen, fs.event_upto st.by)

  keep_alone :
      {w w' e q : ℕ} → shared (up_to rule.E) e ≡ false → WatchMove rule nodes w e w' → Beside flow rule nodes w q →
      Beside flow rule nodes w' q
  keep_alone {e} h (goes at n at') i = absurd (not_set rule.E e h (seen_low n).0 (seen_low n).1)
  keep_alone {e} h (falls at v k n) i = absurd (not_set rule.E e h v k)
  keep_alone h cries i = i

  keep_flow :
      (e : ℕ) {w q q' : ℕ} → shared (up_to rule.E) e ≡ false → (lts flow).move q e q' → Beside flow rule nodes w q →
      Beside flow rule nodes w q'
  keep_flow zero h m i = keep_quiet m i
  keep_flow (suc e) h m i = absurd (not_set rule.E (suc e) h (omega arith) (small m))

  keep :
      {w w' e q q' : ℕ} → JoinMove (watchdog rule nodes) (lts flow) (up_to rule.E) w q e w' q' →
      Beside flow rule nodes w q → Beside flow rule nodes w' q'
  keep (left h m) i = keep_alone h m i
  keep {e} (right h m) i = keep_flow e h m i
  keep {e} (both h m n) i = keep_both (of_set rule.E e h) m n i

  -- A cry comes from state k, where there is a fault. The event is told by an equation, or the match would need axiom K.
  cried :
      {w w' e q : ℕ} → e ≡ suc rule.E → WatchMove rule nodes w e w' → Beside flow rule nodes w q →
      (s : List ℕ) × TraceFault (lts flow) (lts rule) s
  cried p (goes at n at') i = absurd (omega (arith, (seen_low n).1))
  cried p (falls at v k n) i = absurd (omega arith)
  cried p cries (good s g) = absurd (omega (arith, at_below g.at))
  cried p cries (bad h s f) = (s, f)

  cry_of :
      {w w' q q' : ℕ} → JoinMove (watchdog rule nodes) (lts flow) (up_to rule.E) w q (suc rule.E) w' q' →
      Beside flow rule nodes w q → (s : List ℕ) × TraceFault (lts flow) (lts rule) s
  cry_of (left h m) i = cried refl m i
  cry_of (right h m) i = absurd (omega (arith, small m))
  cry_of (both h m n) i = absurd (omega (arith, of_set rule.E (suc rule.E) h))

  pub cry→fault :
      Can (join (watchdog rule nodes) (lts flow) (up_to rule.E)) (suc rule.E) → (s : List ℕ) × TraceFault (lts flow) (lts rule) s
  cry→fault c =
      cry_of
      c.offers.by
      (run_keeps
      {L = join (watchdog rule nodes) (lts flow) (up_to rule.E)}
      (λ x. Beside flow rule nodes x.0 x.1)
      (λ x y e i m. keep m i)
      c.run
      (good [] (Product.first_met flow rule nodes N)))

  -- what the product does the joined watchdog does
  watch_move :
      {i j e q q' : ℕ} → Product.PairMove flow rule nodes i q e j q' →
      JoinMove (watchdog rule nodes) (lts flow) (up_to rule.E) i q e j q'
  watch_move (Product.stays m) = right refl m
  watch_move {e} (Product.goes v g m) = both (in_set rule.E e v (small m)) (goes g.at_from g.next g.at_to) m

  watch_run :
      {x y : ℕ × ℕ} {s : List ℕ} → Run (Product.product flow rule nodes) x s y →
      Run (join (watchdog rule nodes) (lts flow) (up_to rule.E)) x s y
  watch_run stop = stop
  watch_run (quiet m r) = quiet (watch_move m) (watch_run r)
  watch_run (mark v m r) = mark v (watch_move m) (watch_run r)

  pub fault→cry :
      (s : List ℕ) → TraceFault (lts flow) (lts rule) s → Can (join (watchdog rule nodes) (lts flow) (up_to rule.E)) (suc rule.E)
  fault→cry s f =
      let b = trace_fault→pair flow rule fs nodes N f in
      let o = b.offers in
      let z : 0 < suc rule.E = omega arith in
      record {
        trace = f.front ++ (f.last ∷ []);
        at = (length nodes, o.to);
        run =
            run_mark
            (watch_run (Product.side_by_side flow rule fs nodes N b.met))
            o.seen
            (both
            (in_set rule.E f.last o.seen (small o.by))
            (falls b.met.at o.seen (small o.by) b.ends)
            o.by);
        offers = record {
          seen = z;
          to = (length nodes, o.to);
          by = left (lt-leb (suc rule.E) rule.E (omega arith)) cries;
        };
      }

  pub watchdog_theorem :
      Can (join (watchdog rule nodes) (lts flow) (up_to rule.E)) (suc rule.E) ↔
      ((s : List ℕ) × TraceFault (lts flow) (lts rule) s)
  watchdog_theorem = (cry→fault, λ p. fault→cry p.0 p.1)
