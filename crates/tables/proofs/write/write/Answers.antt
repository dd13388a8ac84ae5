use mathlib.Core.Path.{sym, ◌∙◌}
use native.Mathlib.Omega.{arith}
use Rattle.tables.proofs.Writing.{sayable, call_refused, call_short, call_done}
use Rattle.tables.proofs.write.write.Goals as goal

pub returns-in-Some : goal.returns-in-Some
returns-in-Some c = call_refused _ _ _ _ _ _ (sym c.test.ensures ∙ c.in-Some.is)

pub returns-then-out-size : goal.returns-then-out-size
returns-then-out-size c = call_short _ _ _ _ _ (sym c.test.ensures ∙ c.in_default.is) c.if-out-size.true

pub put_table-requires : goal.put_table-requires
put_table-requires c = let g = sayable _ _ _ _ (sym c.test.ensures ∙ c.in_default.is) in
    (omega arith, (g.limits.moves, g.threes))

pub returns : goal.returns
returns c = call_done _ _ _ _ _ _
    (sym c.test.ensures ∙ c.in_default.is)
    c.if-out-size.false
    c.put_table.ensures
