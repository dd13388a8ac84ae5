-- Demand 3, of the calls.
use mathlib.Core.Path.{◌≡◌, sym, ap, ◌∙◌, subst}
use mathlib.Core.List.{List}
use Rattle.std.specs.Prelude.{None}
use Prim.Native.Nat.{ℕ, ◌*◌, ◌+◌}
use native.Mathlib.Omega.{arith}
use Rattle.sets.specs.Sets.{has}
use Rattle.csp.specs.Table.{lts}
use Rattle.csp.proofs.Passing.{passes_refl, passes_trans}
use Rattle.csp.proofs.Joins.{tables_join, tables_comm}
use Rattle.tables.specs.Bytes.{table_of}
use Rattle.tables.specs.Valid.{refusal}
use Rattle.tables.proofs.Proper.{fits}
use Rattle.tables.proofs.Same.{Alike, tables_same}
use Rattle.joins.specs.Joining.{Made}
use Rattle.joins.proofs.Unique.{join-made}
use Rattle.demands.specs.Calls.{JoinWrote, WillPass}
use Rattle.demands.specs.Promises.{PartsApart, AgainstItself, ThroughAChain, AnotherOrder, AnotherGrouping, AssumeGuarantee}
use Rattle.demands.proofs.Grouped.{move_right, move_left}
use Rattle.demands.proofs.Checking.{passed, will_pass}

-- What a join that was written is: the joined table of two good ones.
pub record JoinIs (first second : List ℕ) (X : ℕ) (t : List ℕ) : Type 0 where
  pub first_good : refusal first ≡ None
  pub second_good : refusal second ≡ None
  pub made : Made (table_of first) (table_of second) X t

pub join_is : {first second : List ℕ} {X : ℕ} {t : List ℕ} → JoinWrote first second X t → JoinIs first second X t
join_is {first} {second} {X} w =
    let g = join-made w.call in
    record {
      first_good = g.0;
      second_good = g.1;
      made = subst (Made (table_of first) (table_of second) X) (sym w.is) g.2;
    }

pub against_itself : AgainstItself
against_itself mode t = will_pass mode t t (passes_refl mode (lts (table_of t)))

pub through_a_chain : ThroughAChain
through_a_chain mode a b c p q =
    will_pass mode c a
    (passes_trans mode (lts (table_of a)) (lts (table_of b)) (lts (table_of c)) (passed p).passes (passed q).passes)

pub parts_apart : PartsApart
parts_apart mode X i s p ip sp h wi ws =
    let ji = join_is wi in
    let js = join_is ws in
    will_pass mode sp ip
    (tables_join mode (has X) (table_of i) (table_of s) (table_of p) (table_of ip) (table_of sp) (fits i ji.first_good)
    (fits s js.first_good) (fits p ji.second_good) ji.made.joined js.made.joined (passed h).passes)

pub another_order : AnotherOrder
another_order mode X a b ab ba w v =
    let j = join_is w in
    let k = join_is v in
    will_pass mode ba ab
    (tables_comm mode (has X) (table_of a) (table_of b) (table_of ab) (table_of ba) (fits a j.first_good) (fits b j.second_good)
    j.made.joined k.made.joined)

module _ (X : ℕ) (a b c ab bc l r : List ℕ) (jab : JoinIs a b X ab) (jbc : JoinIs b c X bc) (jl : JoinIs ab c X l) (jr : JoinIs a bc X r) where
  same_states : (table_of l).n ≡ (table_of r).n
  same_states =
      jl.made.joined.n_is ∙ ap (λ (k : ℕ). k * (table_of c).n) jab.made.joined.n_is
      ∙ (let e : ((table_of a).n * (table_of b).n) * (table_of c).n ≡ (table_of a).n * ((table_of b).n * (table_of c).n) = omega arith in e)
      ∙ ap (λ (k : ℕ). (table_of a).n * k) (sym jbc.made.joined.n_is) ∙ sym jr.made.joined.n_is

  same_events : (table_of l).E ≡ (table_of r).E
  same_events = omega (arith, jl.made.joined.E_is, jab.made.joined.E_is, jbc.made.joined.E_is, jr.made.joined.E_is)

  same_start : (table_of l).start ≡ (table_of r).start
  same_start =
      jl.made.joined.start_is ∙ ap (λ (k : ℕ). k * (table_of c).n + (table_of c).start) jab.made.joined.start_is
      ∙ (let e :
      ((table_of a).start * (table_of b).n + (table_of b).start) * (table_of c).n + (table_of c).start
      ≡ (table_of a).start * ((table_of b).n * (table_of c).n) + ((table_of b).start * (table_of c).n + (table_of c).start) = omega arith in e)
      ∙ ap (λ (k : ℕ). (table_of a).start * k + ((table_of b).start * (table_of c).n + (table_of c).start)) (sym jbc.made.joined.n_is)
      ∙ ap (λ (k : ℕ). (table_of a).start * (table_of bc).n + k) (sym jbc.made.joined.start_is) ∙ sym jr.made.joined.start_is

  alike : Alike (table_of l) (table_of r)
  alike = record {
    n = same_states;
    E = same_events;
    start = same_start;
    there = λ v m.
        jr.made.joined.whole
        (move_right (table_of a) (table_of b) (table_of c) (table_of ab) (table_of bc) (has X) jab.made.joined jbc.made.joined
        (jl.made.joined.sound m));
    back = λ v m.
        jl.made.joined.whole
        (move_left (table_of a) (table_of b) (table_of c) (table_of ab) (table_of bc) (has X) jab.made.joined jbc.made.joined
        (jr.made.joined.sound m));
  }

pub another_grouping : AnotherGrouping
another_grouping X a b c ab bc l r wab wbc wl wr = record {
  bytes = same;
  there = λ mode. subst (λ (t : List ℕ). WillPass mode t l) same (against_itself mode l);
  back = λ mode. subst (λ (t : List ℕ). WillPass mode l t) same (against_itself mode l);
}
  where
    same : l ≡ r
    same =
        let jl = join_is wl in
        let jr = join_is wr in
        tables_same l r jl.made.bytes jr.made.bytes jl.made.good jr.made.good
        (alike X a b c ab bc l r (join_is wab) (join_is wbc) jl jr)

pub assume_guarantee : AssumeGuarantee
assume_guarantee mode X m₁ m₂ a p am mm h wa g wm =
    let ja = join_is wa in
    let jm = join_is wm in
    will_pass mode p mm
    (passes_trans mode (lts (table_of mm)) (lts (table_of am)) (lts (table_of p))
    (tables_join mode (has X) (table_of m₁) (table_of a) (table_of m₂) (table_of mm) (table_of am) (fits m₁ jm.first_good)
    (fits a ja.first_good) (fits m₂ ja.second_good) jm.made.joined ja.made.joined (passed h).passes)
    (passed g).passes)
