-- The numbers of refusals: no early test of a check gives one above 11, and the report prints none above 13.
use Prim.Native.Nat.{ℕ, ◌≤◌}
use mathlib.Core.Path.{◌≡◌, refl}
use mathlib.Core.Bool.{Bool, true, false}
use mathlib.Core.List.{List}
use native.Mathlib.Omega.{arith}
use lib.ListN.{length, length-replicate}
use Rattle.std.specs.Prelude.{Option, None, Some}
use Rattle.tables.specs.Bytes.{states, events, start, count, move_of}
use Rattle.tables.specs.Tests.{when}
use Rattle.tables.specs.Valid.{few_bytes, outside, misframed, astray, misnamed, disordered, circling, later_tests, refusal}
use Rattle.tables.specs.Rule.{has_many_states}
use Rattle.tables.specs.Answers.{rule, flow, call}
use Rattle.refine.specs.Refusals.{Turned, let_in, turned, own, wrong_mode, other_events, tests}
use Rattle.refine.specs.Checking.{Answers, turned_away, many_nodes, many_pairs, short_trace, told}
use Rattle.refine.specs.Verdicts.{Answer, refused}
use Rattle.refine.proofs.Tested.{let_in_all}
use Rattle.refine.proofs.Complete.{Within, trace_upto}
use Rattle.report.specs.Report.{Answered}

-- what is so of the answer and of what the later tests say is so of both together
either : {A : Type 0} (P : A → Type 0) (b : Bool) {answer later : A} → P answer → P later → P (when b answer later)
either P true h g = h
either P false h g = g

-- a table's own, 1 to 7
abbrev Seven : Option ℕ → Type 0
Seven t = (k : ℕ) → t ≡ Some k → k ≤ 7

seven : (j : ℕ) → j ≤ 7 → Seven (Some j)
seven j h k e = let x : j ≡ k = cc in omega arith

seven_clear : Seven None
seven_clear k e = absurd (let z : ◌≡◌ {A = ℕ} 0 1 = cc in omega arith)

refusal_upto : (t : List ℕ) → Seven (refusal t)
unfolding refusal later_tests
refusal_upto t =
    either Seven (few_bytes t) (seven 1 (omega arith))
    (either Seven (outside (states t) (events t) (count t)) (seven 2 (omega arith))
    (either Seven (misframed t (count t)) (seven 3 (omega arith))
    (either Seven (astray (states t) (start t)) (seven 4 (omega arith))
    (either Seven (misnamed (states t) (events t) (move_of t) (count t)) (seven 5 (omega arith))
    (either Seven (disordered (move_of t) (count t)) (seven 6 (omega arith))
    (either Seven (circling (move_of t) (count t)) (seven 7 (omega arith)) seven_clear))))))

-- 8, each table's own, 9, 10 and 11
abbrev Eleven : Turned → Type 0
Eleven t = (w k : ℕ) → t ≡ turned w k → (w ≤ 2) × (k ≤ 11)

eleven : (v j : ℕ) → v ≤ 2 → j ≤ 11 → Eleven (turned v j)
eleven v j h g w k e = let x : v ≡ w = cc in let y : j ≡ k = cc in (omega arith, omega arith)

eleven_own : (v : ℕ) (t : Option ℕ) (later : Turned) → v ≤ 2 → Seven t → Eleven later → Eleven (own v t later)
eleven_own v (Some j) later h s f = eleven v j h (omega (arith, s j refl))
eleven_own v None later h s f = f

eleven_in : Eleven let_in
eleven_in w k e = absurd (let z : ◌≡◌ {A = ℕ} 0 1 = cc in omega arith)

pub tests_upto : (r f : List ℕ) (mode : ℕ) (s : Bool) → Eleven (tests r f mode s)
unfolding tests
tests_upto r f mode s =
    either Eleven (wrong_mode mode) (eleven call 8 (omega arith) (omega arith))
    (eleven_own rule (refusal r) _ (omega arith) (refusal_upto r)
    (eleven_own flow (refusal f) _ (omega arith) (refusal_upto f)
    (either Eleven (other_events r f) (eleven call 9 (omega arith) (omega arith))
    (either Eleven (has_many_states r) (eleven rule 10 (omega arith) (omega arith))
    (either Eleven s (eleven call 11 (omega arith) (omega arith)) eleven_in)))))

answers_upto :
    {r f : List ℕ} {mode : ℕ} {work16 work64 old new : List ℕ} {a : Answer} → Answers r f mode work16 work64 old a new →
    (w k : ℕ) → a ≡ refused w k → length old ≡ 16384 → k ≤ 13
answers_upto {r} {f} {mode} (turned_away {w = v} {k = j} t) w k e l =
    let x : j ≡ k = cc in
    omega (arith, (tests_upto r f mode _ v j t).1)
answers_upto (many_nodes t m) w k e l = let x : 12 ≡ k = cc in omega arith
answers_upto (many_pairs t n m) w k e l = let x : 13 ≡ k = cc in omega arith
answers_upto {r} {f} {mode} {work16} {work64} {old} (short_trace {k = c} {v = v} t n m R s) w k e l =
    let i = let_in_all r f mode _ t in
    let W : Within r f mode work16 work64 =
    record {
      mode_upto = i.mode_upto;
      rule_clear = i.rule_clear;
      flow_clear = i.flow_clear;
      events_same = i.events_same;
      states_upto = i.states_upto;
      long = i.long;
      count = c;
      nodes = n;
      room = m;
    } in
    absurd (omega (arith, trace_upto r f mode work16 work64 old W v R))
answers_upto (told t n m R s) w k e l = absurd (let z : ◌≡◌ {A = ℕ} 0 1 = cc in omega arith)

-- "Its trace buffer has 16,384 bytes, so 14 is never printed."
pub never_14 : (r f : List ℕ) (mode w k : ℕ) → Answered r f mode (refused w k) → k ≤ 13
never_14 r f mode w k a = answers_upto a.answers w k refl (length-replicate {A = ℕ} 16384 0)
