-- The watchdog of a rule, over its nodes (k is their count); and the watchdog as a table.
use Rattle.std.specs.Prelude.{◌≡◌, Bool, ℕ, suc, ◌<◌, ◌≤◌, length, leb}
use mathlib.Core.List.{List, Memᴰ}
use Rattle.csp.specs.Lts.{Lts}
use Rattle.csp.specs.Table.{Table, move, lts}
use Rattle.sets.specs.Sets.{Has}
use Rattle.csp.specs.Numbered.{At}
use Rattle.csp.specs.Normal.{Step, NextNode}

-- "Node i goes by e to its next node, or to state k if there is none. State k can do event E + 1 and stays."
pub data WatchMove (rule : Table) (nodes : List ℕ) : ℕ → ℕ → ℕ → Type 0 where
  goes :
      {i e j a b : ℕ} → At nodes i a → NextNode (lts rule) Has a e b → At nodes j b → WatchMove rule nodes i e j
  falls :
      {i e a : ℕ} → At nodes i a → 0 < e → e ≤ rule.E → ((y : ℕ) → Step (lts rule) (Has a) e y → ⊥) →
      WatchMove rule nodes i e (length nodes)
  cries : WatchMove rule nodes (length nodes) (suc rule.E) (length nodes)

-- "A watchdog for k nodes has k + 1 states and E + 1 events, start 0."
abbrev pub watchdog : Table → List ℕ → Lts
watchdog rule nodes = record { State = ℕ; start = 0; move = WatchMove rule nodes }

-- The moves of t are those of the watchdog; their order is another matter.
pub record Watches (rule : Table) (nodes : List ℕ) (t : Table) : Type 0 where
  pub n_is : t.n ≡ suc (length nodes)
  pub E_is : t.E ≡ suc rule.E
  pub start_is : t.start ≡ 0
  pub sound : {i e j : ℕ} → Memᴰ (move i e j) t.moves → WatchMove rule nodes i e j
  pub whole : {i e j : ℕ} → WatchMove rule nodes i e j → Memᴰ (move i e j) t.moves

-- "Joined on events 1 to E": the set that the law on watchdogs joins on (the silent event is never shared)
abbrev pub up_to : ℕ → ℕ → Bool
up_to E e = leb e E
