-- The marked cases: each is right.
use mathlib.Core.Path.{◌≡◌, refl}
use mathlib.Core.Bool.{true}
use mathlib.Core.Option.{Option, none, some}
use mathlib.Core.List.{List, [], ◌∷◌}
use Prim.Native.Nat.{ℕ}
use native.Mathlib.Decide.{ℕ_discrete, dec_lt}
use lib.ListN.{length}
use Rattle.std.specs.Prelude as prelude
use Rattle.std.specs.Prelude.{None, Some}
use Rattle.sets.specs.Sets.{bit, has}
use Rattle.sets.proofs.Laws.{no_higher?}
use Rattle.csp.specs.Numbered.{At}
use Rattle.csp.proofs.Testing.{shows, shown, of_dec, map, then, both, at_pick, entries}
use Rattle.csp.proofs.Judging.{Visit, judge}
use Rattle.csp.proofs.JudgingJoins.{joined}
use Rattle.csp.proofs.JudgingWatchdogs.{watched}
use Rattle.tables.specs.Numbers.{bytes}
use Rattle.tables.specs.Tests.{some as any}
use Rattle.tables.specs.Moves.{move_at}
use Rattle.tables.specs.Bytes.{row, table_of, threes, encoded}
use Rattle.tables.specs.Valid.{outside, misframed, later_tests, refusal, misnames, precedes, circles, misnamed, disordered, circling}
use Rattle.tables.proofs.Proper.{fits}
use Rattle.cases.specs.Cases.{Case, check, join, watchdog, Good, Result, RightCase, right_check, right_join, right_watchdog, cases}

abbrev visit : ℕ → ℕ → List ℕ → Visit
visit i q u = record { node = i; state = q; trace = u }

-- A row for each case: of a pass, the pairs met with a trace to each.
abbrev witnesses : List (List Visit)
witnesses =
    round ∷ round ∷ [] ∷ [] ∷
    once ∷ [] ∷ start ∷ [] ∷
    silent ∷ silent ∷ start ∷ [] ∷
    once ∷ once ∷ once ∷ once ∷
    [] ∷ [] ∷ [] ∷ [] ∷ [] ∷ []
  where
    start : List Visit
    start = visit 0 0 [] ∷ []

    once : List Visit
    once = visit 0 0 [] ∷ visit 1 1 (1 ∷ []) ∷ []

    round : List Visit
    round = visit 0 0 [] ∷ visit 1 1 (1 ∷ []) ∷ visit 2 2 (1 ∷ 2 ∷ []) ∷ []

    silent : List Visit
    silent = visit 0 0 [] ∷ visit 0 1 [] ∷ []

abbrev clear? : (f : prelude.Option ℕ) → Option (f ≡ None)
clear? None = some refl
clear? (Some k) = none

abbrev good? : (t : List ℕ) → Option (Good t)
good? t = clear? (refusal t)

abbrev result? : (size : ℕ) (t : List ℕ) → Option (Result size t)
result? size t = map (λ g. record { good = g.0; size_is = g.1 }) (both (good? t) (of_dec (ℕ_discrete (length t) size)))

abbrev right? : (c : Case) → List Visit → Option (RightCase c)
right? (check k rule flow mode verdict) w =
    then
    (both (good? rule) (good? flow))
    (λ g.
    map
    (right_check g.0 g.1)
    (judge mode (table_of flow) (table_of rule) (fits flow g.1) (fits rule g.0) verdict w))
right? (join k a b set size table) w =
    map
    (λ g. right_join g.0.0 g.0.1 g.1.0 g.1.1)
    (both (both (good? a) (good? b)) (both (result? size table) (joined (table_of a) (table_of b) (has set) (table_of table))))
right? (watchdog k rule size table) w =
    then
    (both (good? rule) (result? size table))
    (λ g.
    map
    (λ l. right_watchdog g.0 g.1 l.0 l.1.0 l.1.1)
    (watched (table_of rule) (fits rule g.0) (table_of table)))

abbrev all_right : (cs : List Case) → List (List Visit) → Option ((i : ℕ) (c : Case) → At cs i c → RightCase c)
all_right [] ws = entries [] RightCase (λ c. none)
all_right (c ∷ cs) [] = none
all_right (c ∷ cs) (w ∷ ws) = map (λ p. at_pick RightCase c cs p.0 p.1) (both (right? c w) (all_right cs ws))

-- The one test.
cases_test : shows (all_right cases witnesses) ≡ true
unfolding ℕ_discrete dec_lt bit no_higher? encoded bytes threes row move_at refusal outside misframed later_tests misnamed disordered circling misnames precedes circles any
cases_test = refl

pub cases_right : (i : ℕ) (c : Case) → At cases i c → RightCase c
cases_right = shown (all_right cases witnesses) cases_test
