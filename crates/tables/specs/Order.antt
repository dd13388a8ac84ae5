-- "Moves stand strictly ascending by from, then event, then to": for laws, of moves in a list. By a law it is what 6 leaves.
use Rattle.std.specs.Prelude.{◌<◌, ◌≡◌}
use mathlib.Core.List.{List, [], ◌∷◌, Memᴰ}
use Rattle.csp.specs.Table.{Move}

-- a comes before b
pub data Before (a b : Move) : Type 0 where
  by_from : a.from < b.from → Before a b
  by_event : a.from ≡ b.from → a.event < b.event → Before a b
  by_to : a.from ≡ b.from → a.event ≡ b.event → a.to < b.to → Before a b

-- each move comes before all that follow it
pub data Ascending : List Move → Type 0 where
  none : Ascending []
  more : {a : Move} {l : List Move} → ((x : Move) → Memᴰ x l → Before a x) → Ascending l → Ascending (a ∷ l)
