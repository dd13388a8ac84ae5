-- Of two tables that fit: a pass or a first fault, never both.
use mathlib.Core.Path.{subst}
use mathlib.Core.Logic.{◌⊎◌, inl, inr}
use mathlib.Core.List.{List}
use Prim.Native.Nat.{ℕ, suc, ◌<◌, ◌≤◌, ◌*◌}
use native.Mathlib.Omega.{arith}
use lib.ListN.{length}
use Rattle.csp.specs.Pass.{Passes}
use Rattle.csp.specs.Fault.{Fault, of_trace, of_refusal, RefusalFault}
use Rattle.csp.specs.Order.{First}
use Rattle.csp.specs.Table.{Table, lts, Fits}
use Rattle.sets.specs.Least.{NoHigher}
use Rattle.csp.specs.Numbered.{lower}
use Rattle.csp.specs.Normal.{NormalForm}
use Rattle.csp.specs.Verdict.{Verdict, passes, trace_fault, refusal_fault, trace_of, Met, MetPairs, LeastOffers, Right, right_pass, right_trace, right_refusal}
use Rattle.csp.proofs.Ordering.{upto_trans}
use Rattle.csp.proofs.Tables.{pass_iff, stays_below}
use Rattle.sets.proofs.Laws.{holds_only}
use Rattle.csp.proofs.Places.{at_below}
use Rattle.csp.proofs.Collect.{collect, Lowest, lowest}
use Rattle.csp.proofs.Forms.{form_exists}
use Rattle.csp.proofs.Testing.{Word}
use Rattle.csp.proofs.Judging.{met?, fault?, fault_flow, run_word, refusal?, refusal-below, offer_set, offer_set_is}
use Rattle.csp.proofs.Product.{met_short}
use Rattle.csp.proofs.PairFaults.{fault_short, first_fault_short}
use Rattle.csp.proofs.Words.{Least, least_word}

pub record FirstFault (m : ℕ) (flow rule : Table) : Type 0 where
  pub trace : List ℕ
  pub fault : Fault m (lts flow) (lts rule) trace
  pub first : First m (lts flow) (lts rule) trace

module _ (m : ℕ) (flow rule : Table) (fi : Fits flow) (fs : Fits rule) (nodes : List ℕ) (N : NormalForm rule nodes) where
  word : {u : List ℕ} → Fault m (lts flow) (lts rule) u → Word flow.E u
  word f = run_word flow fi (fault_flow m (lts flow) (lts rule) f).run

  by_least :
      Least flow.E (suc (length nodes * flow.n)) (Fault m (lts flow) (lts rule)) ⊎
      ((u : List ℕ) → Word flow.E u → length u < suc (length nodes * flow.n) → Fault m (lts flow) (lts rule) u → ⊥) →
      Passes m (lts flow) (lts rule) ⊎ FirstFault m flow rule
  by_least (inl l) =
      inr (record {
        trace = l.word;
        fault = l.has;
        first = λ u f.
            let g = fault_short flow rule fi fs nodes N m f in
            let h : length g.trace < suc (length nodes * flow.n) = omega (arith, g.small) in
            upto_trans (l.least g.trace (word g.fault) h g.fault) g.upto;
      })
  by_least (inr n) =
      inl ((pass_iff m flow rule fs).1 (λ u f.
      let g = fault_short flow rule fi fs nodes N m f in
      let h : length g.trace < suc (length nodes * flow.n) = omega (arith, g.small) in
      n g.trace (word g.fault) h g.fault))

-- "That two good tables either pass or have a fault": and then a first one.
pub pass_or_fault : (m : ℕ) (flow rule : Table) → Fits flow → Fits rule → Passes m (lts flow) (lts rule) ⊎ FirstFault m flow rule
pass_or_fault m flow rule fi fs =
    let F = form_exists rule fs in
    by_least m flow rule fi fs F.0 F.1 (least_word flow.E (suc (length F.0 * flow.n)) (Fault m (lts flow) (lts rule)) (fault? m flow rule fi fs))

-- "No fault's trace is longer than nodes × flow states": of the reported one.
pub right_short :
    (m : ℕ) (flow rule : Table) → Fits flow → Fits rule → (nodes : List ℕ) → NormalForm rule nodes → (v : Verdict) →
    Right m flow rule v → length (trace_of v) ≤ length nodes * flow.n
right_short m flow rule fi fs nodes N _ (right_pass l p q M c) = omega arith
right_short m flow rule fi fs nodes N _ (right_trace {s = s} f b) = first_fault_short flow rule fi fs nodes N m s (of_trace f) b
right_short m flow rule fi fs nodes N _ (right_refusal {s = s} h c b) =
    first_fault_short flow rule fi fs nodes N m s (of_refusal c.state h c.shows) b

-- Whether a pair is met, and by which trace.
module _ (flow rule : Table) (fi : Fits flow) (fs : Fits rule) (nodes : List ℕ) (N : NormalForm rule nodes) where
  some_met? : (i q : ℕ) → Dec ((u : List ℕ) × Met flow rule nodes u i q)
  some_met? i q = go (least_word flow.E (length nodes * flow.n) (λ u. Met flow rule nodes u i q) (met? flow rule fi fs nodes i q))
    where
      go :
          Least flow.E (length nodes * flow.n) (λ u. Met flow rule nodes u i q) ⊎
          ((u : List ℕ) → Word flow.E u → length u < length nodes * flow.n → Met flow rule nodes u i q → ⊥) →
          Dec ((u : List ℕ) × Met flow rule nodes u i q)
      go (inl l) = yes (l.word, l.has)
      go (inr n) =
          no (λ p.
          let g = met_short flow rule fi fs nodes N p.1 in
          n g.0 (run_word flow fi g.1.run) g.2 g.1)

  pub pairs_exist : (l : List (ℕ × ℕ)) × MetPairs flow rule nodes l
  pairs_exist =
      let c = collect flow.n (λ i q. (u : List ℕ) × Met flow rule nodes u i q) some_met? (length nodes) in (
        c.0,
        record {
          once = c.1.once;
          sound = λ k i q h. (c.1.sound k (i, q) h).0;
          whole = λ s i q v. c.1.whole i q (stays_below flow fi v.run fi.start_below) (lower (at_below v.at)) (s, v);
        },
      )

-- There is a right verdict on any two tables that fit.
module _ (m : ℕ) (flow rule : Table) (fi : Fits flow) (fs : Fits rule) where
  least_offers : {s : List ℕ} (q : ℕ) → RefusalFault (lts flow) (lts rule) s q → (o : ℕ) × LeastOffers flow rule s o
  least_offers {s} q f =
      go (lowest flow.n (RefusalFault (lts flow) (lts rule) s) (offer_set flow rule fi fs) (refusal? flow rule fi fs s))
    where
      go :
          Lowest flow.n (RefusalFault (lts flow) (lts rule) s) (offer_set flow rule fi fs) ⊎
          ((r : ℕ) → r < flow.n → RefusalFault (lts flow) (lts rule) s r → ⊥) → (o : ℕ) × LeastOffers flow rule s o
      go (inr z) = absurd (z q (refusal-below flow rule fi fs q f) f)
      go (inl l) = (
        offer_set flow rule fi fs l.at,
        record {
          state = l.at;
          shows = l.has;
          are = offer_set_is flow rule fi fs l.at;
          least = λ r x g h.
              subst
              (NoHigher (offer_set flow rule fi fs l.at))
              (holds_only (offer_set flow rule fi fs r) x (offer_set_is flow rule fi fs r) h)
              (l.least r (refusal-below flow rule fi fs r g) g);
        },
      )

  by_fault : (s : List ℕ) → Fault m (lts flow) (lts rule) s → First m (lts flow) (lts rule) s → (v : Verdict) × Right m flow rule v
  by_fault s (of_trace f) b = (trace_fault s, right_trace f b)
  by_fault s (of_refusal q h f) b = let c = least_offers q f in (refusal_fault s c.0, right_refusal h c.1 b)

  pub right_exists : (v : Verdict) × Right m flow rule v
  right_exists = go (pass_or_fault m flow rule fi fs)
    where
      go : Passes m (lts flow) (lts rule) ⊎ FirstFault m flow rule → (v : Verdict) × Right m flow rule v
      go (inl p) =
          let F = form_exists rule fs in
          let l = pairs_exist flow rule fi fs F.0 F.1 in
          (passes (length F.0) (length l.0), right_pass F.0 l.0 p F.1 l.1)
      go (inr f) = by_fault f.trace f.fault f.first
