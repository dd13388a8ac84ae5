-- Lines that the definition gives, computed.
use Prim.Native.Nat.{◌+◌}
use mathlib.Core.Path.{◌≡◌, refl}
use mathlib.Core.List.{[], ◌∷◌}
use Rattle.csp.specs.Verdict.{passes, trace_fault, refusal_fault}
use Rattle.tables.specs.Answers.{flow}
use Rattle.refine.specs.Verdicts.{found, refused}
use Rattle.sets.specs.Sets.{bit}
use Rattle.lines.specs.Text.{letters, digits, decimal}
use Rattle.lines.specs.Fields.{apart, line_of}
use Rattle.lines.specs.Report.{below, report_line}

-- "Case 3 whole"
case_3_traces : report_line 0 (found (passes 3 2)) ≡ letters "traces holds 3 2\n"
unfolding report_line line_of apart letters decimal digits
case_3_traces = refl

case_3_failures : report_line 1 (found (refusal_fault (1 ∷ []) 0)) ≡ letters "failures refusal-fault 1 1 offers 0\n"
unfolding report_line line_of apart letters decimal digits below bit
case_3_failures = refl

-- case 2
case_2 : report_line 0 (found (trace_fault (1 ∷ 3 ∷ []))) ≡ letters "traces trace-fault 2 1 3\n"
unfolding report_line line_of apart letters decimal digits
case_2 = refl

-- offers 1, 10 and 63, in a mode that is neither
some-offers : report_line 7 (found (refusal_fault [] (2 + 1024 + 9223372036854775808))) ≡ letters "failures refusal-fault 0 offers 3 1 10 63\n"
unfolding report_line line_of apart letters decimal digits below bit
some-offers = refl

some-refusal : report_line 0 (refused flow 13) ≡ letters "traces refused 2 13\n"
unfolding report_line line_of apart letters decimal digits
some-refusal = refl
