-- For inner functions only: the moves of a watchdog in their order, read off a form.
use Rattle.std.specs.Prelude.{Bool, true, false, List, [], ◌∷◌, ◌++◌, ℕ, zero, suc, ◌+◌, ◌*◌, get_or, eqb}
use Rattle.csp.specs.Table.{Move, Table, move}
use Rattle.tables.specs.Bytes.{row}
use Rattle.normal.specs.declared.form.Form.{Form}
use Rattle.normal.specs.Form.{none}

-- a, or b if it is none
abbrev pub or_else : Bool → ℕ → ℕ → ℕ
or_else true a b = b
or_else false a b = a

-- the node v, or state k if it is none
abbrev pub target : ℕ → ℕ → ℕ
target v k = or_else (eqb v none) v k

-- "Node i goes by e to its next node, or to state k if there is none", e being d + 1
abbrev pub node_move : List ℕ → ℕ → ℕ → ℕ → Move
node_move next k i d = move i (d + 1) (target (get_or next (64 * i + (d + 1)) 0) k)

-- the moves of the first so many nodes, by events 1 to E
unfoldable pub node_moves : List ℕ → ℕ → ℕ → ℕ → List Move
node_moves next k E zero = []
node_moves next k E (suc i) = node_moves next k E i ++ row (node_move next k i) E

-- "State k can do event E + 1 and stays."
abbrev pub watch_moves : List ℕ → ℕ → ℕ → List Move
watch_moves next k E = node_moves next k E k ++ (move k (E + 1) k ∷ [])

-- "A watchdog for k nodes has k + 1 states and E + 1 events, start 0."
abbrev pub watch_table : Form → Table
watch_table f =
    record { n = f.count + 1; E = f.events + 1; start = 0; moves = watch_moves f.next f.count f.events }
