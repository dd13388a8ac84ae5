-- A line of fields.
use Rattle.std.specs.Prelude.{ℕ, List, [], ◌∷◌, ◌++◌}
use Prim.Native.Char.{code}
use Prim.Native.String.{String}
use Rattle.lines.specs.Text.{letters, decimal}

-- a field is a word or a number
pub data Field : Type 0 where
  word : String → Field
  number : ℕ → Field

-- "numbers in decimal"
abbrev pub bytes_of : Field → List ℕ
bytes_of (word w) = letters w
bytes_of (number n) = decimal n

-- the two bytes that stand between and after fields
abbrev pub space : ℕ
space = code " "

abbrev pub line_feed : ℕ
line_feed = code "\n"

-- "Fields stand one space apart"
unfoldable pub apart : List Field → List ℕ
apart [] = []
apart (f ∷ []) = bytes_of f
apart (f ∷ g ∷ r) = bytes_of f ++ (space ∷ apart (g ∷ r))

-- "and each line ends in a line feed"
unfoldable pub line_of : List Field → List ℕ
line_of fs = apart fs ++ (line_feed ∷ [])
