-- The report's line of an answer.
use Rattle.std.specs.Prelude.{ℕ, zero, suc, cond, List, [], ◌∷◌, ◌++◌, map, length}
use Rattle.sets.specs.Sets.{has}
use Rattle.csp.specs.Verdict.{passes, trace_fault, refusal_fault}
use Rattle.refine.specs.Verdicts.{Answer, found, refused}
use Rattle.lines.specs.Fields.{Field, word, number, line_of}

-- "The mode words are traces and failures": every mode but 0 has the second
abbrev pub mode_word : ℕ → Field
mode_word zero = word "traces"
mode_word (suc m) = word "failures"

-- "the events", each by its number
abbrev pub events : List ℕ → List Field
events = map number

-- x, if the set s has it
abbrev pub member_at : ℕ → ℕ → List ℕ
member_at s x = cond (has s x) (x ∷ []) []

-- the members of a set that are below a bound, upwards
unfoldable pub below : ℕ → ℕ → List ℕ
below zero s = []
below (suc x) s = below x s ++ member_at s x

-- a set of offers is a number of 64 bits
abbrev pub members : ℕ → List ℕ
members s = below 64 s

-- "the word offers, their count and the events upwards"
abbrev pub offered : ℕ → List Field
offered s = word "offers" ∷ number (length (members s)) ∷ events (members s)

-- "verdict; for a pass nodes and pairs; for a fault the length and the events, and for a refusal fault the word offers [..]"
-- "A refusal prints refused, then 0 for the call, 1 for the rule, 2 for the flow, then the number."
-- "the verdict words are holds, trace-fault, refusal-fault, refused"
abbrev pub verdict_fields : Answer → List Field
verdict_fields (found (passes nodes pairs)) = word "holds" ∷ number nodes ∷ number pairs ∷ []
verdict_fields (found (trace_fault s)) = word "trace-fault" ∷ number (length s) ∷ events s
verdict_fields (found (refusal_fault s offers)) = word "refusal-fault" ∷ number (length s) ∷ (events s ++ offered offers)
verdict_fields (refused whose k) = word "refused" ∷ number whose ∷ number k ∷ []

-- "Fields: mode word; verdict; [..]"
unfoldable pub report_line : ℕ → Answer → List ℕ
report_line mode a = line_of (mode_word mode ∷ verdict_fields a)
