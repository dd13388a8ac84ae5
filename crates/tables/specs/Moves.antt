-- Moves: where they stand.
use Rattle.std.specs.Prelude.{ℕ, ◌+◌, ◌*◌, List, get_or}
use Rattle.csp.specs.Table.{Move, move}
use Rattle.tables.specs.Numbers.{num}
use Rattle.tables.specs.declared.moves.Move.{Move as Held}

-- "Each is 6 bytes: from, event, to": move j of a row of bytes
unfoldable pub move_at : List ℕ → ℕ → Move
move_at ms j = move (num ms (6 * j)) (num ms (6 * j + 2)) (num ms (6 * j + 4))

-- "the moves as 16-bit numbers, three a move": move j of a list of numbers
unfoldable pub listed : List ℕ → ℕ → Move
listed l j = move (get_or l (3 * j) 0) (get_or l (3 * j + 1) 0) (get_or l (3 * j + 2) 0)

-- For inner functions only: the move that the code holds in three numbers.
abbrev pub meant : Held → Move
meant v = move v.from v.event v.to
