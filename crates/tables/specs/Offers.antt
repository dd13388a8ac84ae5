-- For inner functions only: the offers and the stability of a state, said of the moves in its part. Laws tie them to the
-- table's own.
use Rattle.std.specs.Prelude.{ℕ, ◌<◌, ◌≡◌}
use mathlib.Core.List.{List, Memᴰ}
use Rattle.csp.specs.Table.{Move}

-- "the visible events it can do": e is the event of one of the moves, and not silent
pub record Visible (l : List Move) (e : ℕ) : Type 0 where
  pub seen : 0 < e
  pub one : Move
  pub among : Memᴰ one l
  pub by : one.event ≡ e

-- "it has no silent move"
abbrev pub Still : List Move → Type 0
Still l = (v : Move) → Memᴰ v l → v.event ≡ 0 → ⊥

-- the events can stand in a set
abbrev pub SmallEvents : List Move → Type 0
SmallEvents l = (v : Move) → Memᴰ v l → v.event < 64
