-- Numbers in bytes. "All numbers are 16-bit, low byte first."
use Rattle.std.specs.Prelude.{ℕ, ◌+◌, ◌*◌, ◌/◌, ◌%◌, ◌<◌, List, [], ◌∷◌, ◌++◌, length, drop, get_or}

-- the number at byte `at`
abbrev pub num : List ℕ → ℕ → ℕ
num t at = get_or t at 0 + 256 * get_or t (at + 1) 0

-- a row of bytes as numbers, two bytes a number
unfoldable pub numbers : List ℕ → List ℕ
numbers [] = []
numbers (a ∷ []) = []
numbers (a ∷ b ∷ r) = (a + 256 * b) ∷ numbers r

-- a row of numbers as bytes, low byte first
unfoldable pub bytes : List ℕ → List ℕ
bytes [] = []
bytes (v ∷ r) = (v % 256) ∷ ((v / 256) ∷ bytes r)

-- each is a byte
abbrev pub AllBytes : List ℕ → Type 0
AllBytes b = (i : ℕ) → get_or b i 0 < 256

-- a row put at the front of a buffer: "Bytes past a written table stay, and so do numbers past a list that the reader gives back."
abbrev pub over : List ℕ → List ℕ → List ℕ
over new old = new ++ drop (length new) old
