-- The reported fault's trace is no longer than nodes × flow states; so a buffer of 16,384 bytes is never short.
use mathlib.Core.Path.{◌≡◌, refl, ◌∙◌}
use mathlib.Core.Bool.{Bool}
use mathlib.Core.List.{List}
use Prim.Native.Nat.{ℕ, ◌*◌, ◌≤◌}
use native.Mathlib.Omega.{arith}
use lib.ListN.{length, take}
use lib.Seq.{length-take-le}
use Rattle.csp.specs.Verdict.{trace_fault, refusal_fault, trace_of}
use Rattle.csp.specs.Verdict as csp
use Rattle.tables.specs.Bytes.{states}
use Rattle.refine.specs.Refusals.{turned, tests}
use Rattle.refine.specs.Checking.{Nodes, Answers, turned_away, many_nodes, many_pairs, short_trace, told}
use Rattle.refine.specs.Verdicts.{Answer, refused}
use Rattle.refine.proofs.Tested.{turned_each}
use Rattle.refine.proofs.Complete.{trace_within}
use Rattle.refine.specs.declared.verdict.Verdict.TheVariants as verdict
use Rattle.demands.specs.Promises.{ShortTrace, NeverShort}
use Rattle.demands.proofs.Checking.{ToldRight, checked_right, let_in_good}

told_short : {mode k : ℕ} {rule flow : List ℕ} {v : csp.Verdict} → Nodes rule k → ToldRight mode rule flow v → length (trace_of v) ≤ k * states flow
told_short {mode} {k} {rule} {flow} {v} n t = trace_within rule flow mode k t.good.rule_good t.good.flow_good n v t.right

pub short_trace_told : ShortTrace
short_trace_told mode k rule flow (verdict.Passes n p) h c = omega arith
short_trace_told mode k rule flow (verdict.Refused w) h c = omega arith
short_trace_told mode k rule flow (verdict.TraceFault l) h c =
    omega (arith, told_short h (checked_right c (trace_fault (take l c.new)) refl), length-take-le l c.new c.call.whole)
short_trace_told mode k rule flow (verdict.RefusalFault l o) h c =
    omega (arith, told_short h (checked_right c (refusal_fault (take l c.new) o) refl), length-take-le l c.new c.call.whole)

-- No early test gives 14: what they turn away as the call's own fault has a number up to 11.
early_not : (r f : List ℕ) (mode : ℕ) (s : Bool) → tests r f mode s ≡ turned 0 14 → ⊥
early_not r f mode s h =
    let up =
    turned_each (λ w k. w ≡ 0 → k ≤ 11) r f mode s
    (λ h e. omega arith)
    (λ j h e. absurd (omega arith))
    (λ j h e. absurd (omega arith))
    (λ e. omega arith)
    (λ e. omega arith)
    (λ e. omega arith)
    h in
    omega (arith, up refl)

never_14 :
    {r f : List ℕ} {mode : ℕ} {work16 work64 old new : List ℕ} {a : Answer} → Answers r f mode work16 work64 old a new →
    a ≡ refused 0 14 → 16384 ≤ length old → ⊥
never_14 {r} {f} {mode} (turned_away t) e l = early_not r f mode _ (t ∙ cc)
never_14 (many_nodes t m) e l = let z : ◌≡◌ {A = ℕ} 12 14 = cc in omega arith
never_14 (many_pairs t n m) e l = let z : ◌≡◌ {A = ℕ} 13 14 = cc in omega arith
never_14 {r} {f} {mode} (short_trace {v = v} t n m x s) e l =
    omega (arith, told_short n (record { good = let_in_good r f mode _ t; right = x }))
never_14 (told t n m x s) e l = cc

pub never_short : NeverShort
never_short rule flow mode work16 work64 old left16 left64 new l c = never_14 c.answers refl l
