-- What the reader answers and leaves in the list.
use Rattle.std.specs.Prelude.{ℕ, ◌≡◌, Bool, true, false, List, length, drop, ltb, Option, None, Some, Result}
use Rattle.tables.specs.Numbers.{numbers, over, AllBytes}
use Rattle.tables.specs.Bytes.{states, events, start, count}
use Rattle.tables.specs.Valid.{refusal}
use Rattle.tables.specs.Answers.{Says, refused, table, rule, call, read_says}
use Rattle.tables.specs.declared.answer.Refusal.{Refusal}
use Rattle.tables.specs.declared.answer.Header.{Header}

-- "gives them back": the moves of a table as numbers, three a move
abbrev pub list_of : List ℕ → List ℕ
list_of t = numbers (drop 12 t)

-- an answer, with what is then in the list
pub record Given : Type 0 where
  pub says : Says
  pub list : List ℕ

-- refused, the list is as it was; else the moves stand in it
abbrev pub given : Option ℕ → Bool → List ℕ → List ℕ → Given
given (Some k) short t old = record { says = refused rule k; list = old }
given None true t old = record { says = refused call 18; list = old }
given None false t old =
    record { says = table (states t) (events t) (start t) (count t); list = over (list_of t) old }

-- "refusing by 1 to 7, then 18 for a short list"
unfoldable pub reads : List ℕ → List ℕ → Given
reads t old = given (refusal t) (ltb (length old) (length (list_of t))) t old

-- what a call of the reader promises: r is its answer, new the list after it; of the table, that its bytes are bytes
pub record ReadCall (t old : List ℕ) (r : Result Header Refusal) (new : List ℕ) : Type 0 where
  pub answer : read_says r ≡ (reads t old).says
  pub list : new ≡ (reads t old).list
  pub bytes : AllBytes t
