-- What the answers of a check say of the two tables' meaning, and the other way round.
use mathlib.Core.Path.{◌≡◌, refl, subst}
use mathlib.Core.Bool.{Bool}
use mathlib.Core.List.{List}
use Rattle.std.specs.Prelude.{None}
use Prim.Native.Nat.{ℕ}
use native.Mathlib.Omega.{arith}
use lib.ListN.{take}
use Rattle.csp.specs.Pass as pass
use Rattle.csp.specs.Fault.{TraceFault, of_trace, of_refusal}
use Rattle.csp.specs.Table.{Table, lts}
use Rattle.csp.specs.Verdict.{passes, trace_fault, refusal_fault, Right, right_pass, right_trace, right_refusal}
use Rattle.csp.specs.Verdict as csp
use Rattle.csp.proofs.Faults.{pass_excludes}
use Rattle.csp.proofs.Tables.{offers?}
use Rattle.tables.specs.Bytes.{table_of}
use Rattle.tables.specs.Valid.{refusal}
use Rattle.refine.specs.Refusals.{let_in, tests}
use Rattle.refine.specs.Checking.{Answers, turned_away, many_nodes, many_pairs, short_trace, told}
use Rattle.refine.proofs.Tested.{let_in_all}
use Rattle.refine.specs.Verdicts.{Answer, found, refused, answer_of}
use Rattle.refine.specs.declared.verdict.Verdict.{Verdict}
use Rattle.refine.specs.declared.verdict.Verdict.TheVariants as verdict
use Rattle.demands.specs.Calls.{Checked, Passed, Broke, WillPass, WillBreak}
use Rattle.demands.specs.Calls as calls

-- both tables are good
pub record Good (rule flow : List ℕ) : Type 0 where
  pub rule_good : refusal rule ≡ None
  pub flow_good : refusal flow ≡ None

pub let_in_good : (r f : List ℕ) (mode : ℕ) (s : Bool) → tests r f mode s ≡ let_in → Good r f
let_in_good r f mode s e = let g = let_in_all r f mode s e in record { rule_good = g.rule_clear; flow_good = g.flow_clear }

-- a verdict that was told is right, of good tables
pub record ToldRight (mode : ℕ) (rule flow : List ℕ) (v : csp.Verdict) : Type 0 where
  pub good : Good rule flow
  pub right : Right mode (table_of flow) (table_of rule) v

found_one : {v w : csp.Verdict} → ◌≡◌ {A = Answer} (found v) (found w) → v ≡ w
found_one e = cc

not_found : {w k : ℕ} {v : csp.Verdict} {A : Type 0} → ◌≡◌ {A = Answer} (refused w k) (found v) → A
not_found e = cc

answers_right :
    {r f : List ℕ} {mode : ℕ} {work16 work64 old new : List ℕ} {a : Answer} → Answers r f mode work16 work64 old a new →
    (v : csp.Verdict) → a ≡ found v → ToldRight mode r f v
answers_right (turned_away t) v e = not_found e
answers_right (many_nodes t m) v e = not_found e
answers_right (many_pairs t n m) v e = not_found e
answers_right (short_trace t n m x l) v e = not_found e
answers_right {r} {f} {mode} (told t n m x l) v e = record {
  good = let_in_good r f mode _ t;
  right = subst (Right mode (table_of f) (table_of r)) (found_one e) x;
}

pub checked_right :
    {mode : ℕ} {rule flow : List ℕ} {v : Verdict} (c : Checked mode rule flow v) (w : csp.Verdict) → answer_of v c.new ≡ found w →
    ToldRight mode rule flow w
checked_right c w e = answers_right c.call.answers w e

-- a right verdict that passes
right_passes : {m : ℕ} {i s : Table} {v : csp.Verdict} {n p : ℕ} → Right m i s v → v ≡ passes n p → pass.Passes m (lts i) (lts s)
right_passes (right_pass k l p N a) e = p
right_passes (right_trace f b) e = cc
right_passes (right_refusal h c b) e = cc

pub record PassedMeans (mode : ℕ) (rule flow : List ℕ) : Type 0 where
  pub good : Good rule flow
  pub passes : pass.Passes mode (lts (table_of flow)) (lts (table_of rule))

pub passed : {mode : ℕ} {rule flow : List ℕ} → Passed mode rule flow → PassedMeans mode rule flow
passed p = let t = checked_right p.checked (passes p.nodes p.pairs) refl in record { good = t.good; passes = right_passes t.right refl }

-- Where the meaning passes, a right verdict is no fault.
no_trace :
    {m : ℕ} {i s : Table} {v : csp.Verdict} {u : List ℕ} → pass.Passes m (lts i) (lts s) → Right m i s v → v ≡ trace_fault u → ⊥
no_trace h (right_pass k l p N a) e = cc
no_trace {m} {i} {s} h (right_trace {s = t} f b) e = pass_excludes m (lts i) (lts s) (offers? i) h t (of_trace f)
no_trace h (right_refusal g c b) e = cc

no_refusal :
    {m o : ℕ} {i s : Table} {v : csp.Verdict} {u : List ℕ} → pass.Passes m (lts i) (lts s) → Right m i s v → v ≡ refusal_fault u o → ⊥
no_refusal h (right_pass k l p N a) e = cc
no_refusal h (right_trace f b) e = cc
no_refusal {m} {i = i} {s = s} h (right_refusal {s = t} g c b) e = pass_excludes m (lts i) (lts s) (offers? i) h t (of_refusal c.state g c.shows)

pub will_pass : (mode : ℕ) (rule flow : List ℕ) → pass.Passes mode (lts (table_of flow)) (lts (table_of rule)) → WillPass mode rule flow
will_pass mode rule flow h (verdict.Passes n p) c = calls.pass
will_pass mode rule flow h (verdict.Refused w) c = calls.refusal
will_pass mode rule flow h (verdict.TraceFault k) c =
    absurd (no_trace h (checked_right c (trace_fault (take k c.new)) refl).right refl)
will_pass mode rule flow h (verdict.RefusalFault k o) c =
    absurd (no_refusal h (checked_right c (refusal_fault (take k c.new) o) refl).right refl)

-- Where the flow has a trace fault, every check in mode 0 that is not refused answers one.
broken : {i s : Table} {v : csp.Verdict} {u : List ℕ} {n p : ℕ} → TraceFault (lts i) (lts s) u → Right 0 i s v → v ≡ passes n p → ⊥
broken {i} {s} {u = u} f r e = pass_excludes 0 (lts i) (lts s) (offers? i) (right_passes r e) u (of_trace f)

mode_0 : {i s : Table} {v : csp.Verdict} {u : List ℕ} {o : ℕ} → Right 0 i s v → v ≡ refusal_fault u o → ⊥
mode_0 (right_pass k l p N a) e = cc
mode_0 (right_trace f b) e = cc
mode_0 (right_refusal g c b) e = omega arith

pub will_break : (rule flow u : List ℕ) → TraceFault (lts (table_of flow)) (lts (table_of rule)) u → WillBreak 0 rule flow
will_break rule flow u f (verdict.Passes n p) c = absurd (broken f (checked_right c (passes n p) refl).right refl)
will_break rule flow u f (verdict.Refused w) c = calls.refusal
will_break rule flow u f (verdict.TraceFault k) c = calls.break
will_break rule flow u f (verdict.RefusalFault k o) c =
    absurd (mode_0 (checked_right c (refusal_fault (take k c.new) o) refl).right refl)

right_trace_fault :
    {m : ℕ} {i s : Table} {v : csp.Verdict} {u : List ℕ} → Right m i s v → v ≡ trace_fault u → (w : List ℕ) × TraceFault (lts i) (lts s) w
right_trace_fault (right_pass k l p N a) e = cc
right_trace_fault (right_trace {s = s} f b) e = (s, f)
right_trace_fault (right_refusal g c b) e = cc

pub broke : {mode : ℕ} {rule flow : List ℕ} → Broke mode rule flow → (u : List ℕ) × TraceFault (lts (table_of flow)) (lts (table_of rule)) u
broke b = right_trace_fault (checked_right b.checked (trace_fault (take b.length b.checked.new)) refl).right refl
