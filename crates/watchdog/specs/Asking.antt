-- What asking for the watchdog of a rule answers, and what the lent buffers hold then. asked is the rule, as bytes or as the
-- table that they denote, and old is the result buffer as it was.
use Rattle.std.specs.Prelude.{◌≡◌, true, List, ℕ, ◌≤◌, ◌<◌, length, None, Some, Result}
use Rattle.csp.specs.Table.{Table}
use Rattle.csp.specs.Normal.{NormalForm}
use Rattle.csp.specs.Watchdog.{Watches}
use Rattle.tables.specs.Numbers.{AllBytes, over}
use Rattle.tables.specs.Bytes.{events, table_of}
use Rattle.tables.specs.Valid.{refusal}
use Rattle.tables.specs.Rule.{has_many_states, ManyNodes}
use Rattle.tables.specs.Answers.{Says, refused, wrote, rule, call, built_says}
use Rattle.tables.specs.declared.answer.Refusal.{Refusal}
use Rattle.workspace.specs.Workspace.{short, cleared}

-- 19: "a watchdog is asked of a rule with E = 63"
abbrev pub AllEvents : List ℕ → Type 0
AllEvents asked = events asked ≡ 63

-- t is the bytes of the watchdog: the one good table whose states, events, start and moves are those of the watchdog for
-- the rule's nodes
pub record Made (asked : Table) (t : List ℕ) : Type 0 where
  pub nodes : List ℕ
  pub normal : NormalForm asked nodes
  pub bytes : AllBytes t
  pub good : refusal t ≡ None
  pub watches : Watches asked nodes (table_of t)

-- One of a row of tests: where it holds, the call is refused with what it says, and the buffer is untouched; else the rest
-- of the row decides.
pub data Unless (P : Type 0) (no : Says) (Rest : Says → List ℕ → Type 0) (old : List ℕ) : Says → List ℕ → Type 0 where
  refuses : P → Unless P no Rest old no old
  passes : {says : Says} {new : List ℕ} → (P → ⊥) → Rest says new → Unless P no Rest old says new

-- 18: "the result buffer is shorter than the table to be written"; else the table stands in it, and "bytes past a written
-- table stay"
pub data Puts (t old : List ℕ) : Says → List ℕ → Type 0 where
  no_room : length old < length t → Puts t old (refused call 18) old
  put : length t ≤ length old → Puts t old (wrote (length t)) (over t old)

-- the watchdog is made, and put where there is room
pub record Writes (asked : Table) (old : List ℕ) (says : Says) (new : List ℕ) : Type 0 where
  pub table : List ℕ
  pub made : Made asked table
  pub puts : Puts table old says new

-- "Watchdog: the rule's 1 to 7, then 10, 19, 11, 12, 18."
pub data Builds (asked work16 work64 old : List ℕ) : Says → List ℕ → Type 0 where
  no_table : {k : ℕ} → refusal asked ≡ Some k → Builds asked work16 work64 old (refused rule k) old
  table :
      {says : Says} {new : List ℕ} → refusal asked ≡ None →
      Unless (has_many_states asked ≡ true) (refused rule 10)
      (Unless (AllEvents asked) (refused rule 19)
      (Unless (short work16 work64 ≡ true) (refused call 11)
      (Unless (ManyNodes asked) (refused rule 12)
      (Writes (table_of asked) old) old) old) old) old says new →
      Builds asked work16 work64 old says new

-- What a call promises: the rule, both workspaces and the result buffer are as given, r is its answer, left16 and left64 are
-- the workspaces after it, and new is the result buffer.
-- "Check and watchdog clear both workspaces to zero over their whole length, refused or not, short or not."
pub record WatchdogCall (asked work16 work64 old : List ℕ) (r : Result ℕ Refusal) (left16 left64 new : List ℕ) : Type 0 where
  pub builds : Builds asked work16 work64 old (built_says r) new
  pub cleared16 : left16 ≡ cleared work16
  pub cleared64 : left64 ≡ cleared work64
