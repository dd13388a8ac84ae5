-- An answer as eight numbers, for callers whose language has no such enums. Every value has one place:
--
--   0 the kind, 1 whose a refusal is, 2 its number, 3 to 7 the values; a place without a value holds 0.
--
-- A value keeps its place in every kind that has it: a fault's length stands at 3 and its offers at 4, whichever the fault. So
-- a further value takes a place that is 0 so far (a fault's stage 5, a refusal's length 3) and a further kind a number from 5
-- on, and nothing that a caller reads today moves.
use Rattle.std.specs.Prelude.{ℕ, List, [], ◌∷◌, Result, Ok, Err}
use Rattle.tables.specs.Answers.{whose, number_of}
use Rattle.tables.specs.declared.answer.Refusal.{Refusal}
use Rattle.tables.specs.declared.answer.Header.{Header}
use Rattle.refine.specs.declared.verdict.Verdict.{Verdict}
use Rattle.refine.specs.declared.verdict.Verdict.TheVariants as verdict
use Rattle.rhythmoxa.specs.declared.numbers.Kind.{Kind}
use Rattle.rhythmoxa.specs.declared.numbers.Kind.TheVariants as kind
use Rattle.rhythmoxa.specs.declared.place.Part.{Part}

-- the kinds
abbrev pub refused_kind : ℕ
refused_kind = 0

abbrev pub done_kind : ℕ
done_kind = 1

abbrev pub pass_kind : ℕ
pass_kind = 2

abbrev pub trace_fault_kind : ℕ
trace_fault_kind = 3

abbrev pub refusal_fault_kind : ℕ
refusal_fault_kind = 4

abbrev pub kind_number : Kind → ℕ
kind_number kind.Refused = refused_kind
kind_number kind.Done = done_kind
kind_number kind.Passes = pass_kind
kind_number kind.TraceFault = trace_fault_kind
kind_number kind.RefusalFault = refusal_fault_kind

-- a kind that is no refusal, with up to four values; the last place is free
abbrev pub values : ℕ → ℕ → ℕ → ℕ → ℕ → List ℕ
values kind a b c d = kind ∷ 0 ∷ 0 ∷ a ∷ b ∷ c ∷ d ∷ 0 ∷ []

-- "A refusal carries only its number and whose it is": "0 for the call, 1 for the rule, 2 for the flow, then the number"
abbrev pub refused_numbers : Refusal → List ℕ
refused_numbers w = refused_kind ∷ whose w ∷ number_of w ∷ 0 ∷ 0 ∷ 0 ∷ 0 ∷ 0 ∷ []

-- what a call gives back, or its refusal
abbrev pub answer_numbers : {A : Type 0} → (A → List ℕ) → Result A Refusal → List ℕ
answer_numbers numbers_of (Ok a) = numbers_of a
answer_numbers numbers_of (Err w) = refused_numbers w

-- "A reader gives them back": n, E, start and the count of moves
abbrev pub header_numbers : Header → List ℕ
header_numbers h = values done_kind h.states h.events h.start h.moves

abbrev pub read_numbers : Result Header Refusal → List ℕ
read_numbers = answer_numbers header_numbers

-- writer, composer and watchdog: the length written
abbrev pub size_numbers : ℕ → List ℕ
size_numbers size = values done_kind size 0 0 0

abbrev pub built_numbers : Result ℕ Refusal → List ℕ
built_numbers = answer_numbers size_numbers

-- the moves of one state: where their part begins in the table, and how many bytes it has
abbrev pub part_numbers : Part → List ℕ
part_numbers p = values done_kind p.offset p.size 0 0

-- "A check answers one of: passes, with the count of nodes and the count of pairs [..]; trace fault, with length; refusal
-- fault, with length and offers; refused."
abbrev pub verdict_numbers : Verdict → List ℕ
verdict_numbers (verdict.Passes nodes pairs) = values pass_kind nodes pairs 0 0
verdict_numbers (verdict.TraceFault size) = values trace_fault_kind size 0 0 0
verdict_numbers (verdict.RefusalFault size offers) = values refusal_fault_kind size offers 0 0
verdict_numbers (verdict.Refused w) = refused_numbers w
