use native.Mathlib.Omega.{arith}
use mathlib.Core.Path.{refl, ap}
use Rattle.normal.specs.declared.form.Form.{Form}
use Rattle.watchdog.specs.Rows.{node_move}
use Rattle.tables.proofs.Putting.{row-none, row_next}
use Rattle.watchdog.proofs.put.Watched.put_node.Goals as goal

pub loop-d-init : goal.loop-d-init
loop-d-init c = row-none _ _ _

pub loop-d-preserved : goal.loop-d-preserved
loop-d-preserved c = let f = c.self.inside.form.now in
    let n = ap (λ (g : Form). g.events) c.self.view_is in
    row_next (node_move f.next f.count c.args.i) c.args.at c.loop-d.d c.args.ms.now c.loop-d.ms _ c.loop-d.invariant refl
    (omega (arith, n))
    (rw c.target_of-to.ensures.0 at c.put_move.ensures)
