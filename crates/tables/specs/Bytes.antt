-- The table, byte by byte: what its bytes denote, and the bytes of a table that is to be written.
use Rattle.std.specs.Prelude.{ℕ, zero, suc, ◌/◌, List, [], ◌∷◌, ◌++◌, length, drop}
use Rattle.csp.specs.Table.{Move, Table}
use Rattle.tables.specs.Numbers.{num, bytes}
use Rattle.tables.specs.Moves.{move_at}

-- "count of states n at 0"
abbrev pub states : List ℕ → ℕ
states t = num t 0

-- "count of visible events E at 2"
abbrev pub events : List ℕ → ℕ
events t = num t 2

-- "start state at 4"
abbrev pub start : List ℕ → ℕ
start t = num t 4

-- "count of moves m at 6"
abbrev pub count : List ℕ → ℕ
count t = num t 6

-- "The moves begin in the middle of the table, at byte 12": move j of a table
abbrev pub move_of : List ℕ → ℕ → Move
move_of t = move_at (drop 12 t)

-- the first m moves of a row
unfoldable pub row : (ℕ → Move) → ℕ → List Move
row at zero = []
row at (suc m) = row at m ++ (at m ∷ [])

-- What the bytes of a table denote. Its transition system is `lts` of this.
abbrev pub table_of : List ℕ → Table
table_of t = record { n = states t; E = events t; start = start t; moves = row (move_of t) (count t) }

-- the moves that stand in a part of a table
abbrev pub moves_in : List ℕ → List Move
moves_in part = row (move_at part) (length part / 6)

-- "the moves as 16-bit numbers, three a move"
unfoldable pub threes : List Move → List ℕ
threes [] = []
threes (v ∷ l) = v.from ∷ v.event ∷ v.to ∷ threes l

-- "Header of 12 bytes: count of states n at 0, count of visible events E at 2, start state at 4, count of moves m at 6, offset
-- of the moves at 8, zero at 10."
abbrev pub header : ℕ → ℕ → ℕ → ℕ → List ℕ
header n E s m = bytes (n ∷ E ∷ s ∷ m ∷ 12 ∷ 0 ∷ [])

-- the bytes of a table that is to be written: the header, then its moves
unfoldable pub encoded : Table → List ℕ
encoded t = header t.n t.E t.start (length t.moves) ++ bytes (threes t.moves)
