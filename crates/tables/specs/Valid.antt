-- The refusals 1 to 7 of one table.
use Rattle.std.specs.Prelude.{ℕ, ◌+◌, ◌*◌, ◌-◌, Bool, cond, not, ◌&&◌, ◌||◌, List, length, ltb, leb, eqb, Option, None, Some}
use Rattle.csp.specs.Table.{Move}
use Rattle.tables.specs.Numbers.{num}
use Rattle.tables.specs.Tests.{some, when}
use Rattle.tables.specs.Bytes.{states, events, start, count, move_of}

-- 1: "fewer than 12 bytes"
abbrev pub few_bytes : List ℕ → Bool
few_bytes t = ltb (length t) 12

-- 2: "n, E or m outside its limits": "n from 1 to 1,024; E from 0 to 63; m from 0 to 4,096"
unfoldable pub outside : ℕ → ℕ → ℕ → Bool
outside n E m = ltb n 1 || (ltb 1024 n || (ltb 63 E || ltb 4096 m))

-- 3: "offset is not 12, the last header number is not 0, or the length is not 12 + 6 × m"
unfoldable pub misframed : List ℕ → ℕ → Bool
misframed t m = not (eqb (num t 8) 12) || (not (eqb (num t 10) 0) || not (eqb (length t) (12 + 6 * m)))

-- 4: "start is not below n"
abbrev pub astray : ℕ → ℕ → Bool
astray n s = leb n s

-- A row of moves is given as at, which says what move j is, with their count m.
-- the move names a state not below n or an event above E
unfoldable pub misnames : ℕ → ℕ → Move → Bool
misnames n E v = leb n v.from || (ltb E v.event || leb n v.to)

-- 5: "some move names a state not below n or an event above E"
unfoldable pub misnamed : ℕ → ℕ → (ℕ → Move) → ℕ → Bool
misnamed n E at m = some (λ j. misnames n E (at j)) m

-- a stands before b: "by from, then event, then to"
unfoldable pub precedes : Move → Move → Bool
precedes a b =
    cond (eqb a.from b.from)
    (cond (eqb a.event b.event) (ltb a.to b.to) (ltb a.event b.event))
    (ltb a.from b.from)

-- 6: "the moves are not strictly ascending": some move does not stand before the next
unfoldable pub disordered : (ℕ → Move) → ℕ → Bool
disordered at m = some (λ j. not (precedes (at j) (at (j + 1)))) (m - 1)

-- the move is silent and leads from a state to itself
unfoldable pub circles : Move → Bool
circles v = eqb v.event 0 && eqb v.from v.to

-- 7: "some silent move leads from a state to itself"
unfoldable pub circling : (ℕ → Move) → ℕ → Bool
circling at m = some (λ j. circles (at j)) m

-- the first of 4 to 7 that holds
abbrev pub first_of : Bool → Bool → Bool → Bool → Option ℕ
first_of four five six seven =
    when four (Some 4) (when five (Some 5) (when six (Some 6) (when seven (Some 7) None)))

-- 4 to 7, "each over the whole table before the next"; the writer tries them of a list
unfoldable pub later_tests : ℕ → ℕ → ℕ → (ℕ → Move) → ℕ → Option ℕ
later_tests n E s at m = first_of (astray n s) (misnamed n E at m) (disordered at m) (circling at m)

-- "Within one table 1 to 7 are tried in that order"
unfoldable pub refusal : List ℕ → Option ℕ
refusal t =
    when (few_bytes t) (Some 1)
    (when (outside (states t) (events t) (count t)) (Some 2)
    (when (misframed t (count t)) (Some 3)
    (later_tests (states t) (events t) (start t) (move_of t) (count t))))
