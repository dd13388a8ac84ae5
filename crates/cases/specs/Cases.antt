-- The marked cases: "The marked cases form a single table, proved once against the definitions."
use Rattle.std.specs.Prelude.{◌≡◌, List, [], ◌∷◌, ℕ, ◌+◌, ◌^◌, length, None}
use Rattle.sets.specs.Sets.{has}
use Rattle.csp.specs.Joined.{Joined}
use Rattle.csp.specs.Normal.{NormalForm}
use Rattle.csp.specs.Verdict.{Verdict, passes, trace_fault, refusal_fault, Right}
use Rattle.csp.specs.Watchdog.{Watches}
use Rattle.tables.specs.Bytes.{table_of}
use Rattle.tables.specs.Valid.{refusal}
use Rattle.cases.specs.Tables.{bytes_r, bytes_stop, bytes_div, bytes_flow2, bytes_flow3, bytes_rule7, bytes_flow7, bytes_flow9, bytes_join10, bytes_loop11, bytes_join11, bytes_watchdog12}

-- A case: its number, what is given to the call, and what it answers; of a builder, the length of the table and the table.
pub data Case : Type 0 where
  check : (number : ℕ) (rule flow : List ℕ) (mode : ℕ) (verdict : Verdict) → Case
  join : (number : ℕ) (first second : List ℕ) (set : ℕ) (size : ℕ) (table : List ℕ) → Case
  watchdog : (number : ℕ) (rule : List ℕ) (size : ℕ) (table : List ℕ) → Case

-- a table that is not refused
abbrev pub Good : List ℕ → Type 0
Good t = refusal t ≡ None

-- a table of that size, not refused: what a builder leaves in the result buffer
pub record Result (size : ℕ) (t : List ℕ) : Type 0 where
  pub good : Good t
  pub size_is : length t ≡ size

-- What a case states.
pub data RightCase : Case → Type 0 where
  right_check :
      {k mode : ℕ} {rule flow : List ℕ} {verdict : Verdict} → Good rule → Good flow →
      Right mode (table_of flow) (table_of rule) verdict → RightCase (check k rule flow mode verdict)
  right_join :
      {k set size : ℕ} {a b table : List ℕ} → Good a → Good b → Result size table →
      Joined (table_of a) (table_of b) (has set) (table_of table) → RightCase (join k a b set size table)
  right_watchdog :
      {k size : ℕ} {rule table : List ℕ} → Good rule → Result size table →
      (nodes : List ℕ) → NormalForm (table_of rule) nodes → Watches (table_of rule) nodes (table_of table) →
      RightCase (watchdog k rule size table)

-- Cases 1 to 9 stand in both modes, also where the order states one.
abbrev pub cases : List Case
cases =
    -- "R against R: passes in both modes, 3 nodes, 3 pairs."
    check 1 bytes_r bytes_r 0 (passes 3 3) ∷
    check 1 bytes_r bytes_r 1 (passes 3 3) ∷
    -- "R, flow R with 1 by 3 to 0 added: trace fault 1 3 in both modes."
    check 2 bytes_r bytes_flow2 0 (trace_fault (1 ∷ 3 ∷ [])) ∷
    check 2 bytes_r bytes_flow2 1 (trace_fault (1 ∷ 3 ∷ [])) ∷
    -- "R, flow 0 by 1 to 1 only (two states): mode 0 passes, 3 nodes, 2 pairs; mode 1 refusal fault, trace 1, no offers."
    check 3 bytes_r bytes_flow3 0 (passes 3 2) ∷
    check 3 bytes_r bytes_flow3 1 (refusal_fault (1 ∷ []) 0) ∷
    -- "R, flow STOP: mode 1 refusal fault, empty trace, no offers." (Mode 0 is not stated.)
    check 4 bytes_r bytes_stop 0 (passes 3 1) ∷
    check 4 bytes_r bytes_stop 1 (refusal_fault [] 0) ∷
    -- "R, flow DIV: passes in both modes, 3 nodes, 2 pairs."
    check 5 bytes_r bytes_div 0 (passes 3 2) ∷
    check 5 bytes_r bytes_div 1 (passes 3 2) ∷
    -- "Rule DIV, flow STOP: mode 0 passes, mode 1 refusal fault, empty trace." (The counts and the offers are not stated.)
    check 6 bytes_div bytes_stop 0 (passes 1 1) ∷
    check 6 bytes_div bytes_stop 1 (refusal_fault [] 0) ∷
    -- "Rule 0 silent to 1 and to 2, 1 by 1 to 3, 2 by 2 to 3; flow 0 by 1 to 1 and by 2 to 1: passes in both modes, 2 nodes, 2 pairs."
    check 7 bytes_rule7 bytes_flow7 0 (passes 2 2) ∷
    check 7 bytes_rule7 bytes_flow7 1 (passes 2 2) ∷
    -- "The same rule, flow 0 by 1 to 1: passes in both modes." (The counts are not stated.)
    check 8 bytes_rule7 bytes_flow3 0 (passes 2 2) ∷
    check 8 bytes_rule7 bytes_flow3 1 (passes 2 2) ∷
    -- "Rule STOP, flow 0 by 2 to 1 and by 3 to 1: trace fault 2." (The mode is not stated.)
    check 9 bytes_stop bytes_flow9 0 (trace_fault (2 ∷ [])) ∷
    check 9 bytes_stop bytes_flow9 1 (trace_fault (2 ∷ [])) ∷
    -- "R joined with R on 1, 2, 3: 9 states, moves 0 1 4, 4 2 8, 8 3 0; 30 bytes."
    join 10 bytes_r bytes_r (2 ^ 1 + 2 ^ 2 + 2 ^ 3) 30 bytes_join10 ∷
    -- "E = 1, one state with 1 to itself, joined with itself on no event: 1 state, 1 move, 18 bytes."
    join 11 bytes_loop11 bytes_loop11 0 18 bytes_join11 ∷
    -- "Watchdog of R: 4 states, 4 events, 10 moves, 72 bytes."
    watchdog 12 bytes_r 72 bytes_watchdog12 ∷
    []
