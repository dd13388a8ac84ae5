-- The refusals that a check gives before the rule's nodes are looked for; r are the bytes of the rule, f those of the flow.
use Rattle.std.specs.Prelude.{Bool, not, ◌||◌, List, ℕ, eqb, Option, None, Some}
use Rattle.tables.specs.Tests.{when}
use Rattle.tables.specs.Bytes.{events}
use Rattle.tables.specs.Valid.{refusal}
use Rattle.tables.specs.Rule.{has_many_states}
use Rattle.tables.specs.Answers.{rule, flow, call}

-- What these tests say of a call: it is let in, or turned away with a refusal, which "says whose table is at fault, or that
-- the call is", and the number.
pub data Turned : Type 0 where
  let_in : Turned
  turned : (whose number : ℕ) → Turned

-- a table's own 1 to 7
abbrev pub own : ℕ → Option ℕ → Turned → Turned
own w (Some k) later = turned w k
own w None later = later

-- 8: "mode is neither 0 nor 1"
abbrev pub wrong_mode : ℕ → Bool
wrong_mode mode = not (eqb mode 0 || eqb mode 1)

-- 9: "rule and flow have different E"
abbrev pub other_events : List ℕ → List ℕ → Bool
other_events r f = not (eqb (events r) (events f))

-- "Check: 8, rule's 1 to 7, flow's 1 to 7, then 9 to 14": up to 11, a workspace being short or not
unfoldable pub tests : List ℕ → List ℕ → ℕ → Bool → Turned
tests r f mode short =
    when (wrong_mode mode) (turned call 8)
    (own rule (refusal r)
    (own flow (refusal f)
    (when (other_events r f) (turned call 9)
    (when (has_many_states r) (turned rule 10)
    (when short (turned call 11) let_in)))))
