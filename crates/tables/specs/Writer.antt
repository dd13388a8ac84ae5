-- What the writer answers and leaves in the result buffer.
use Rattle.std.specs.Prelude.{ℕ, ◌/◌, ◌%◌, ◌≡◌, Bool, true, false, not, List, length, ltb, eqb, Option, None, Some, Result}
use Rattle.csp.specs.Table.{Table}
use Rattle.tables.specs.Numbers.{over}
use Rattle.tables.specs.Tests.{when}
use Rattle.tables.specs.Moves.{listed}
use Rattle.tables.specs.Bytes.{row, encoded}
use Rattle.tables.specs.Valid.{outside, later_tests}
use Rattle.tables.specs.Answers.{Says, refused, wrote, rule, call, built_says}
use Rattle.tables.specs.declared.answer.Refusal.{Refusal}

-- 3: "a list not in threes"
abbrev pub not_in_threes : List ℕ → Bool
not_in_threes l = not (eqb (length l % 3) 0)

-- "refuses by 2 (m being a third of the list's length, rounded down), 3 (a list not in threes), 4 to 7"
unfoldable pub list_refusal : ℕ → ℕ → ℕ → List ℕ → Option ℕ
list_refusal n E s l =
    when (outside n E (length l / 3)) (Some 2)
    (when (not_in_threes l) (Some 3)
    (later_tests n E s (listed l) (length l / 3)))

-- the table that is to be written
abbrev pub table_from : ℕ → ℕ → ℕ → List ℕ → Table
table_from n E s l = record { n = n; E = E; start = s; moves = row (listed l) (length l / 3) }

-- an answer, with what is then in the result buffer
pub record Written : Type 0 where
  pub says : Says
  pub out : List ℕ

-- refused, the buffer is as it was ("untouched by it"); else the table stands in it
abbrev pub written : Option ℕ → Bool → List ℕ → List ℕ → Written
written (Some k) short table old = record { says = refused rule k; out = old }
written None true table old = record { says = refused call 18; out = old }
written None false table old = record { says = wrote (length table); out = over table old }

-- 18: "the result buffer is shorter than the table to be written"
unfoldable pub writes : ℕ → ℕ → ℕ → List ℕ → List ℕ → Written
writes n E s l old =
    let new = encoded (table_from n E s l) in
    written (list_refusal n E s l) (ltb (length old) (length new)) new old

-- what a call of the writer promises: r is its answer, new the result buffer after it
pub record WriteCall (n E s : ℕ) (l old : List ℕ) (r : Result ℕ Refusal) (new : List ℕ) : Type 0 where
  pub answer : built_says r ≡ (writes n E s l old).says
  pub buffer : new ≡ (writes n E s l old).out
