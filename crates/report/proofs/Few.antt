-- The line of what a check answers has at most 50,000 bytes: so it always fits.
use Prim.Native.Nat.{ℕ, ◌+◌, ◌*◌, ◌≤◌, ◌<◌}
use mathlib.Core.Path.{◌≡◌, refl, sym, ap, subst, ◌∙◌}
use mathlib.Core.List.{List}
use native.Mathlib.Omega.{arith}
use lib.ListN.{length}
use Rattle.csp.specs.Normal.{NormalForm}
use Rattle.csp.specs.Table.{Table, Fits}
use Rattle.csp.specs.Verdict.{MetPairs, Right, right_pass, right_trace, right_refusal}
use Rattle.csp.specs.Verdict as csp
use Rattle.csp.proofs.Places.{at_below, once_small}
use Rattle.csp.proofs.Product.{pair_high, pair_low, pair_below}
use Rattle.csp.proofs.Tables.{stays_below}
use Rattle.csp.proofs.Judging.{run_word}
use Rattle.csp.proofs.Total.{right_short}
use Rattle.csp.proofs.Unique.{form_unique}
use Rattle.tables.specs.Bytes.{states, table_of}
use Rattle.tables.specs.Answers.{rule, call}
use Rattle.tables.proofs.Proper.{fits}
use Rattle.tables.proofs.Tested.{good}
use Rattle.refine.specs.Checking.{Answers, turned_away, many_nodes, many_pairs, short_trace, told}
use Rattle.refine.specs.Verdicts.{Answer, found}
use Rattle.refine.proofs.Tested.{let_in_all}
use Rattle.lines.specs.Report.{report_line}
use Rattle.report.specs.Report.{Answered}
use Rattle.report.proofs.Numbers.{tests_upto}
use Rattle.report.proofs.Lengths.{Small, small_pass, small_trace, small_refusal, small_refused, line_length}

-- At most as many pairs are met as there are of nodes and flow states.
module _ (f r : Table) (fi : Fits f) (nodes : List ℕ) (pairs : List (ℕ × ℕ)) (M : MetPairs f r nodes pairs) where
  record Num (x : ℕ × ℕ) (k : ℕ) : Type 0 where
    node : x.0 < length nodes
    state : x.1 < f.n
    is : x.0 * f.n + x.1 ≡ k

  one_pair : (x y : ℕ × ℕ) (k : ℕ) → Num x k → Num y k → x ≡ y
  one_pair x y k a b i = (
    pair_high f.n x.0 x.1 y.0 y.1 a.state b.state (a.is ∙ sym b.is) i,
    pair_low f.n x.0 x.1 y.0 y.1 a.state b.state (a.is ∙ sym b.is) i,
  )

  met_few : length pairs ≤ length nodes * f.n
  met_few =
      once_small pairs (length nodes * f.n) Num M.once
      (λ i x h.
      let g = M.sound i x.0 x.1 h in
      let u = at_below g.1.at in
      let v = stays_below f fi g.1.run fi.start_below in
      (x.0 * f.n + x.1, pair_below (length nodes) f.n x.0 x.1 u v, record { node = u; state = v; is = refl }))
      one_pair

-- A right verdict has few nodes and pairs, or a trace of at most as many events as there are of those, each up to E.
module _ (mode : ℕ) (f r : Table) (ff : Fits f) (fr : Fits r) (nodes : List ℕ) (N : NormalForm r nodes) (e : f.E < 100)
    (few : length nodes ≤ 64) (room : length nodes * f.n ≤ 16384) where
  right_small : (v : csp.Verdict) → Right mode f r v → Small (found v)
  right_small _ (right_pass l p P L M) =
      let same = form_unique r l nodes L N in
      let k : length p ≤ length nodes * f.n = subst (λ (x : List ℕ). length p ≤ length x * f.n) same (met_few f r ff l p M) in
      small_pass (length l) (length p) (omega (arith, ap length same)) (omega arith)
  right_small v (right_trace {s = s} h b) =
      small_trace e (run_word f ff h.flow.run) (omega (arith, right_short mode f r ff fr nodes N _ (right_trace h b)))
  right_small v (right_refusal {s = s} m c b) =
      small_refusal e (run_word f ff c.shows.run) (omega (arith, right_short mode f r ff fr nodes N _ (right_refusal m c b)))

answers_small :
    {r f : List ℕ} {mode : ℕ} {work16 work64 old new : List ℕ} {a : Answer} →
    Answers r f mode work16 work64 old a new → Small a
answers_small {r} {f} {mode} (turned_away {w = w} {k = k} t) =
    let u = tests_upto r f mode _ w k t in
    small_refused w k u.0 (omega (arith, u.1))
answers_small (many_nodes t m) = small_refused rule 12 (omega arith) (omega arith)
answers_small (many_pairs t n m) = small_refused call 13 (omega arith) (omega arith)
answers_small (short_trace t n m x l) = small_refused call 14 (omega arith) (omega arith)
answers_small {r} {f} {mode} (told {v = v} t n m x l) =
    let i = let_in_all r f mode _ t in
    right_small mode (table_of f) (table_of r) (fits f i.flow_clear) (fits r i.rule_clear) n.nodes n.normal
    (omega (arith, (good f i.flow_clear).limits.events)) (omega (arith, n.few))
    (subst (λ (k : ℕ). k * states f ≤ 16384) (sym n.count) m) v x

pub line_few : {r f : List ℕ} {mode : ℕ} {a : Answer} → Answered r f mode a → length (report_line mode a) ≤ 50000
line_few {mode = mode} {a = a} h = line_length mode a (answers_small h.answers)
