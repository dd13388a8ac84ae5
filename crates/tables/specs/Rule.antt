-- What is asked of a table as a rule, beyond 1 to 7.
use Rattle.std.specs.Prelude.{ℕ, Bool, List, ltb}
use Rattle.csp.specs.Normal.{MoreSets}
use Rattle.tables.specs.Bytes.{states, table_of}

-- 10: "the rule has more than 64 states"
abbrev pub has_many_states : List ℕ → Bool
has_many_states rule = ltb 64 (states rule)

-- 12: "the rule has more than 64 nodes"
abbrev pub ManyNodes : List ℕ → Type 0
ManyNodes rule = MoreSets (table_of rule) 64
