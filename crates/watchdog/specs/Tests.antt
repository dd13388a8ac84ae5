-- For inner functions only: the tests that come before the nodes are looked for.
use Rattle.std.specs.Prelude.{◌≡◌, Bool, true, false, List, ℕ, None, Some, Result, Ok, Err}
use Rattle.tables.specs.Valid.{refusal}
use Rattle.tables.specs.Rule.{has_many_states}
use Rattle.tables.specs.Answers.{Says}
use Rattle.tables.specs.declared.answer.Refusal.{Refusal}
use Rattle.tables.specs.declared.answer.Refusal.TheVariants.{Rule, Call}
use Rattle.workspace.specs.Workspace.{short}
use Rattle.normal.specs.Rule.{AsRule}
use Rattle.watchdog.specs.Asking.{AllEvents, Builds}

-- the first of the rule's 1 to 7, then 10, 19 and 11, or the bytes of the rule; lacks says whether a workspace is short
pub data Tested (asked : List ℕ) (lacks : Bool) : Result (List ℕ) Refusal → Type 0 where
  no_table : {k : ℕ} → refusal asked ≡ Some k → Tested asked lacks (Err (Rule k))
  many_states : refusal asked ≡ None → has_many_states asked ≡ true → Tested asked lacks (Err (Rule 10))
  all_events : AsRule asked → AllEvents asked → Tested asked lacks (Err (Rule 19))
  short_work : AsRule asked → (AllEvents asked → ⊥) → lacks ≡ true → Tested asked lacks (Err (Call 11))
  passed : AsRule asked → (AllEvents asked → ⊥) → lacks ≡ false → Tested asked lacks (Ok asked)

-- What is answered, whatever the workspaces that are short or not.
abbrev pub Answers : List ℕ → Bool → List ℕ → Says → List ℕ → Type 0
Answers asked lacks old says new =
    (work16 work64 : List ℕ) → lacks ≡ short work16 work64 → Builds asked work16 work64 old says new
