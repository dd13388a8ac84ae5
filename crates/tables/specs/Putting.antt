-- For inner functions only: moves put into a buffer.
use Rattle.std.specs.Prelude.{ℕ, List, ◌++◌, take, drop}
use Rattle.csp.specs.Table.{Move}
use Rattle.tables.specs.Numbers.{bytes, over}
use Rattle.tables.specs.Bytes.{threes}

-- moves as bytes
abbrev pub move_bytes : List Move → List ℕ
move_bytes l = bytes (threes l)

-- a row put into a buffer from a place on
abbrev pub into : ℕ → List ℕ → List ℕ → List ℕ
into at new old = take at old ++ over new (drop at old)
