use native.Mathlib.Omega.{arith}
use mathlib.Core.Path.{ap, sym, ◌∙◌}
use Prim.Native.Nat.{ℕ}
use mathlib.Core.List.{List, ◌++◌}
use lib.ListN.{take}
use Rattle.tables.specs.Numbers.{over}
use Rattle.tables.specs.Bytes.{encoded}
use Rattle.tables.proofs.Parts.{tail_lent, tail_back}
use Rattle.watchdog.specs.Asking.{no_room}
use Rattle.tables.specs.Putting.{move_bytes}
use Rattle.watchdog.specs.Rows.{watch_moves, watch_table}
use Rattle.tables.proofs.Putting.{table_put}
use Rattle.watchdog.proofs.Splicing.{watch_count, watch_length, puts_put}
use Rattle.watchdog.proofs.put.put_watchdog.Goals as goal

pub returns-then-out-size : goal.returns-then-out-size
returns-then-out-size c = no_room (omega (arith, watch_length c.args.form.now))

pub returns : goal.returns
returns c = let a = c.args in
    let f = a.form.now in
    let o = c.put_header.new.out in
    puts_put (encoded (watch_table f)) a.out.now _ _ (sym (watch_length f)) (omega arith)
    (tail_back 12 o c.put_moves.new.ms
    ∙ ap
    (λ (x : List ℕ). take 12 o ++ x)
    (c.put_moves.ensures
    ∙ ap (λ (x : List ℕ). over (move_bytes (watch_moves f.next f.count f.events)) x) (tail_lent 12 o))
    ∙ table_put (watch_table f) _ a.out.now o (sym (watch_count f.next f.count f.events)) c.put_header.ensures)
