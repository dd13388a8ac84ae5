-- The moves of one state.
use Rattle.std.specs.Prelude.{ℕ, zero, suc, ◌*◌, Bool, true, false, List, [], ◌∷◌, ◌++◌, take, drop, ltb, eqb, Option, None, Some}
use Rattle.csp.specs.Table.{Move}
use Rattle.tables.specs.Moves.{move_at}
use Rattle.tables.specs.Bytes.{states, count}
use Rattle.tables.specs.Valid.{refusal}

-- the list where the test holds, else nothing
abbrev pub keep : {A : Type 0} → Bool → List A → List A
keep true l = l
keep false l = []

-- the bytes of those of the first m moves that are moves of state s, as they stand
unfoldable pub of_state : List ℕ → ℕ → ℕ → List ℕ
of_state ms s zero = []
of_state ms s (suc j) = of_state ms s j ++ keep (eqb (move_at ms j).from s) (take 6 (drop (6 * j) ms))

-- nothing, where the table is refused
abbrev pub unless_refused : Option ℕ → List ℕ → List ℕ
unless_refused None l = l
unless_refused (Some k) l = []

-- "The moves of one state are handed out as a part of the lent table; a refused table or a state not below n gives an empty part"
unfoldable pub moves_of : List ℕ → ℕ → List ℕ
moves_of t s = unless_refused (refusal t) (keep (ltb s (states t)) (of_state (drop 12 t) s (count t)))

-- those of a list of moves that leave s, in their order: by a law, the moves that stand in the part
unfoldable pub leaving : ℕ → List Move → List Move
leaving s [] = []
leaving s (v ∷ l) = keep (eqb v.from s) (v ∷ []) ++ leaving s l
