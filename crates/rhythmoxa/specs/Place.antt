-- Where the moves of one state stand in their table.
use Rattle.std.specs.Prelude.{ℕ, zero, suc, ◌+◌, ◌*◌, Bool, true, false, ◌≡◌, List, length, take, drop, ltb}
use Rattle.tables.specs.Moves.{move_at}
use Rattle.tables.specs.Bytes.{count}
use Rattle.tables.specs.State.{moves_of}
use Rattle.rhythmoxa.specs.declared.place.Part.{Part}

-- one more, where the test holds
abbrev pub one_more_if : Bool → ℕ → ℕ
one_more_if true k = k + 1
one_more_if false k = k

-- how many of the first m moves are moves of a state below s
unfoldable pub below : List ℕ → ℕ → ℕ → ℕ
below ms s zero = 0
below ms s (suc j) = one_more_if (ltb (move_at ms j).from s) (below ms s j)

-- 0 for a part without bytes
abbrev pub unless_empty : ℕ → ℕ → ℕ
unless_empty zero at = 0
unless_empty (suc k) at = at

-- "Header of 12 bytes"; "Each is 6 bytes"; "Moves stand strictly ascending by from": the moves of a state stand after the header
-- and the moves of every lower state. Where there are none, the part begins at 0.
unfoldable pub begins : List ℕ → ℕ → ℕ
begins t s = unless_empty (length (moves_of t s)) (12 + 6 * below (drop 12 t) s (count t))

-- "The moves of one state are handed out as a part of the lent table, without copying": as the place of that part
pub record Placed (t : List ℕ) (s : ℕ) (p : Part) : Type 0 where
  pub part : take p.size (drop p.offset t) ≡ moves_of t s
  pub size : p.size ≡ length (moves_of t s)
  pub offset : p.offset ≡ begins t s
