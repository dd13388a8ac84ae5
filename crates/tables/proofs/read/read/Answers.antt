use Prim.Native.Nat.{◌/◌, ℕ}
use mathlib.Core.List.{List, ◌++◌}
use mathlib.Core.Path.{ap, ◌∙◌}
use native.Mathlib.Omega.{arith}
use lib.ListN.{drop, length, length-drop}
use Rattle.std.proofs.lemmas.Result.{err_from_is_err_and}
use Rattle.tables.specs.Numbers.{numbers}
use Rattle.tables.proofs.Tested.{good}
use Rattle.tables.proofs.Reading.{call_refused, call_short, call_done}
use Rattle.tables.proofs.read.read.Goals as goal

pub returns-in_err-table : goal.returns-in_err-table
returns-in_err-table c = let p = err_from_is_err_and c.from_residual.result c.from_residual.ensures.1 in
    let f = c.in_err-table.ensures.err in
    rw (p.1, p.2, f.is) (call_refused _ _ (λ i. omega (arith, c.type_inv.t i)) _ f.first)

pub returns-then-list-m : goal.returns-then-list-m
returns-then-list-m c = let h = c.in_ok-table.ensures.ok in
    let m = rw h.bytes at c.count-m.ensures.count in
    call_short _ _ (λ i. omega (arith, c.type_inv.t i)) h.good (omega (arith, m))

pub give-requires : goal.give-requires
give-requires c = let h = c.in_ok-table.ensures.ok in
    let m = rw h.bytes at c.count-m.ensures.count in
    let p = rw h.bytes at c.moves.ensures.part in
    rw p (omega (arith, m, length-drop 12 c.args.t.now, (good _ h.good).frame.size))

pub returns : goal.returns
returns c = let h = c.in_ok-table.ensures.ok in
    let t = c.args.t.now in
    let m = rw h.bytes at c.count-m.ensures.count in
    call_done t c.args.list.now
    (λ i. omega (arith, c.type_inv.t i))
    _ _ _ _ _ h.good
    (omega (arith, m))
    c.get16.ensures
    c.get16-2.ensures
    c.get16-3.ensures
    m
    (c.give.ensures ∙ ap (λ (x : List ℕ). numbers x ++ drop (length x / 2) c.args.list.now) (rw h.bytes at c.moves.ensures.part))
