-- "Joined on events 1 to E with a flow of the rule's E, limits on joins set aside, event E + 1 can occur exactly when the
-- flow has a trace fault": of the table that a call wrote.
use Prim.Native.Nat.{ℕ, suc, ◌≤◌}
use mathlib.Core.Path.{◌≡◌, refl, sym, ◌∙◌, ap, subst}
use mathlib.Core.Logic.{◌↔◌}
use mathlib.Core.List.{List}
use lib.ListN.{length, take}
use lib.Seq.{take_at}
use Rattle.csp.specs.Lts.{Can}
use Rattle.csp.specs.Fault.{TraceFault}
use Rattle.csp.specs.Join.{join}
use Rattle.csp.specs.Table.{Table, lts, Fits}
use Rattle.csp.specs.Watchdog.{Watches, up_to}
use Rattle.csp.proofs.Watched.{watchdog_first, watchdog_second}
use Rattle.tables.specs.Numbers.{over}
use Rattle.tables.specs.Bytes.{events, table_of}
use Rattle.tables.specs.Valid.{refusal}
use Rattle.tables.specs.Answers.{Says, refused, wrote}
use Rattle.std.proofs.Common.{None, Ok}
use Rattle.tables.proofs.Proper.{fits}
use Rattle.watchdog.specs.Asking.{Made, Unless, refuses, passes, Puts, no_room, put, Writes, Builds, no_table, table, WatchdogCall}

-- what a call that wrote has left
pub record Written (asked old : List ℕ) (n : ℕ) (new : List ℕ) : Type 0 where
  pub table : List ℕ
  pub good : refusal asked ≡ None
  pub made : Made (table_of asked) table
  pub size : length table ≡ n
  pub room : length table ≤ length old
  pub left : new ≡ over table old

module _ (asked work16 work64 old : List ℕ) (n : ℕ) where
  puts_left : {t : List ℕ} {s : Says} {x : List ℕ} → Puts t old s x → s ≡ wrote n → (length t ≡ n) × (length t ≤ length old) × (x ≡ over t old)
  puts_left (no_room h) e = absurd (cc)
  puts_left (put h) e = (cc, h, refl)

  -- a test that refuses does not write
  past :
      {P : Type 0} {w k : ℕ} {s : Says} {Rest : Says → List ℕ → Type 0} {x : List ℕ} → s ≡ wrote n →
      Unless P (refused w k) Rest old s x → Rest s x
  past e (refuses p) = absurd (cc)
  past e (passes q r) = r

  writes_left : {s : Says} {x : List ℕ} → refusal asked ≡ None → Writes (table_of asked) old s x → s ≡ wrote n → Written asked old n x
  writes_left g w e =
      let p = puts_left w.puts e in
      record { table = w.table; good = g; made = w.made; size = p.0; room = p.1; left = p.2 }

  builds_left : {s : Says} {x : List ℕ} → Builds asked work16 work64 old s x → s ≡ wrote n → Written asked old n x
  builds_left (no_table h) e = absurd (cc)
  builds_left (table h r) e = writes_left h (past e (past e (past e (past e r)))) e

  pub call_left :
      {left16 left64 new : List ℕ} → WatchdogCall asked work16 work64 old (Ok n) left16 left64 new → Written asked old n new
  call_left c = builds_left c.builds refl

-- The theorem, of the n bytes that a call wrote, joined as the first table or as the second.
module _ (asked work16 work64 old : List ℕ) (n : ℕ) (left16 left64 new : List ℕ)
    (c : WatchdogCall asked work16 work64 old (Ok n) left16 left64 new) where
  written : Written asked old n new
  written = call_left asked work16 work64 old n c

  watches : Watches (table_of asked) written.made.nodes (table_of (take n new))
  watches =
      let is : take n new ≡ written.table = ap (λ (l : List ℕ). take n l) written.left ∙ take_at written.table _ n written.size in
      subst (λ (l : List ℕ). Watches (table_of asked) written.made.nodes (table_of l)) (sym is) written.made.watches

  module _ (flow : Table) (f : Fits flow) (same : flow.E ≡ events asked) where
    pub watched_first :
        Can (join (lts (table_of (take n new))) (lts flow) (up_to (events asked))) (suc (events asked)) ↔
        ((s : List ℕ) × TraceFault (lts flow) (lts (table_of asked)) s)
    watched_first =
        watchdog_first (table_of asked) written.made.nodes (table_of (take n new)) watches flow f (fits asked written.good) same
        written.made.normal

    pub watched_second :
        Can (join (lts flow) (lts (table_of (take n new))) (up_to (events asked))) (suc (events asked)) ↔
        ((s : List ℕ) × TraceFault (lts flow) (lts (table_of asked)) s)
    watched_second =
        watchdog_second (table_of asked) written.made.nodes (table_of (take n new)) watches flow f (fits asked written.good) same
        written.made.normal
