-- What the functions that C calls promise. Each makes one call of the library; its promise is that call's own, of some answer
-- whose numbers stand in the answer array at exit. By laws (proofs/) the numbers tell which answer it is, and two outcomes that
-- a promise allows are equal.
use Rattle.std.specs.Prelude.{ℕ, ◌≡◌, List}
use Rattle.csp.specs.Pass.{ordinary_mode}
use Rattle.tables.specs.Reader.{ReadCall}
use Rattle.tables.specs.Writer.{WriteCall}
use Rattle.refine.specs.Checking.{CheckCall}
use Rattle.joins.specs.Joining.{JoinCall}
use Rattle.watchdog.specs.Asking.{WatchdogCall}
use Rattle.rhythmoxa.specs.Layout.{read_numbers, built_numbers, part_numbers, verdict_numbers}
use Rattle.rhythmoxa.specs.Place.{Placed}

-- a call gave some answer, and all is said by its numbers
pub record Told {A : Type 0} (numbers_of : A → List ℕ) (Call : A → Type 0) (numbers : List ℕ) : Type 0 where
  pub answer : A
  pub call : Call answer
  pub told : numbers ≡ numbers_of answer

-- rhx_read: the list is `old` before the call and `new` after it; so are the buffers below
abbrev pub ReadTold : List ℕ → List ℕ → List ℕ → List ℕ → Type 0
ReadTold t old new numbers = Told read_numbers (λ a. ReadCall t old a new) numbers

-- rhx_write
abbrev pub WriteTold : ℕ → ℕ → ℕ → List ℕ → List ℕ → List ℕ → List ℕ → Type 0
WriteTold n E s l old new numbers = Told built_numbers (λ a. WriteCall n E s l old a new) numbers

-- rhx_moves_of: "this one call refuses nothing and has no number"
abbrev pub PartTold : List ℕ → ℕ → List ℕ → Type 0
PartTold t s numbers = Told part_numbers (λ p. Placed t s p) numbers

-- rhx_check
abbrev pub CheckTold : List ℕ → List ℕ → ℕ → List ℕ → List ℕ → List ℕ → List ℕ → List ℕ → List ℕ → List ℕ → Type 0
CheckTold r f mode work16 work64 old left16 left64 new numbers =
    Told verdict_numbers (λ a. CheckCall r f mode work16 work64 old a left16 left64 new) numbers

-- rhx_check_short: "A short form of the check takes no mode and runs mode 0."
abbrev pub ShortTold : List ℕ → List ℕ → List ℕ → List ℕ → List ℕ → List ℕ → List ℕ → List ℕ → List ℕ → Type 0
ShortTold r f = CheckTold r f ordinary_mode

-- rhx_join
abbrev pub JoinTold : List ℕ → List ℕ → ℕ → List ℕ → List ℕ → List ℕ → Type 0
JoinTold first second X old new numbers = Told built_numbers (λ a. JoinCall first second X old a new) numbers

-- rhx_watchdog
abbrev pub WatchdogTold : List ℕ → List ℕ → List ℕ → List ℕ → List ℕ → List ℕ → List ℕ → List ℕ → Type 0
WatchdogTold r work16 work64 old left16 left64 new numbers =
    Told built_numbers (λ a. WatchdogCall r work16 work64 old a left16 left64 new) numbers
