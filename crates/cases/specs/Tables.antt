-- The trial tables of the marked cases, as bytes.
use Rattle.std.specs.Prelude.{List, [], ◌∷◌, ℕ}
use Rattle.csp.specs.Table.{Move, move}
use Rattle.tables.specs.Bytes.{encoded}

-- a table of n states and E events that starts at 0
abbrev pub table : ℕ → ℕ → List Move → List ℕ
table n E moves = encoded (record { n = n; E = E; start = 0; moves = moves })

-- "R: 0 by 1 to 1, 1 by 2 to 2, 2 by 3 to 0."
abbrev pub bytes_r : List ℕ
bytes_r = table 3 3 (move 0 1 1 ∷ move 1 2 2 ∷ move 2 3 0 ∷ [])

-- "STOP: one state, no move."
abbrev pub bytes_stop : List ℕ
bytes_stop = table 1 3 []

-- "DIV: 0 and 1, silent moves both ways."
abbrev pub bytes_div : List ℕ
bytes_div = table 2 3 (move 0 0 1 ∷ move 1 0 0 ∷ [])

-- 2: "flow R with 1 by 3 to 0 added"
abbrev pub bytes_flow2 : List ℕ
bytes_flow2 = table 3 3 (move 0 1 1 ∷ move 1 2 2 ∷ move 1 3 0 ∷ move 2 3 0 ∷ [])

-- 3: "flow 0 by 1 to 1 only (two states)"; 8: "flow 0 by 1 to 1"
abbrev pub bytes_flow3 : List ℕ
bytes_flow3 = table 2 3 (move 0 1 1 ∷ [])

-- 7: "Rule 0 silent to 1 and to 2, 1 by 1 to 3, 2 by 2 to 3"; 8: "The same rule"
abbrev pub bytes_rule7 : List ℕ
bytes_rule7 = table 4 3 (move 0 0 1 ∷ move 0 0 2 ∷ move 1 1 3 ∷ move 2 2 3 ∷ [])

-- 7: "flow 0 by 1 to 1 and by 2 to 1"
abbrev pub bytes_flow7 : List ℕ
bytes_flow7 = table 2 3 (move 0 1 1 ∷ move 0 2 1 ∷ [])

-- 9: "flow 0 by 2 to 1 and by 3 to 1"
abbrev pub bytes_flow9 : List ℕ
bytes_flow9 = table 2 3 (move 0 2 1 ∷ move 0 3 1 ∷ [])

-- 10: "9 states, moves 0 1 4, 4 2 8, 8 3 0"
abbrev pub bytes_join10 : List ℕ
bytes_join10 = table 9 3 (move 0 1 4 ∷ move 4 2 8 ∷ move 8 3 0 ∷ [])

-- 11: "E = 1, one state with 1 to itself"
abbrev pub bytes_loop11 : List ℕ
bytes_loop11 = table 1 1 (move 0 1 0 ∷ [])

-- 11, joined: "1 state, 1 move, 18 bytes"
abbrev pub bytes_join11 : List ℕ
bytes_join11 = bytes_loop11

-- 12: "4 states, 4 events, 10 moves": nodes 0 to 2 as R goes, else to 3, which stays by 4
abbrev pub bytes_watchdog12 : List ℕ
bytes_watchdog12 = table 4 4 (move 0 1 1 ∷ move 0 2 3 ∷ move 0 3 3 ∷ move 1 1 3 ∷ move 1 2 2 ∷ move 1 3 3 ∷ move 2 1 3 ∷ move 2 2 3 ∷ move 2 3 0 ∷ move 3 4 3 ∷ [])
