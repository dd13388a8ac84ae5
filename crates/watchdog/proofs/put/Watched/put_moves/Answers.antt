use native.Mathlib.Omega.{arith}
use mathlib.Core.Path.{◌≡◌, refl, ap, ◌∙◌}
use Prim.Native.Nat.{ℕ, ◌+◌}
use mathlib.Core.List.{[], ◌∷◌}
use Rattle.csp.specs.Table.{move}
use Rattle.tables.specs.Putting.{move_bytes, into}
use Rattle.normal.specs.declared.form.Form.{Form}
use Rattle.watchdog.specs.Rows.{node_moves}
use Rattle.tables.proofs.Putting.{moves_more}
use Rattle.watchdog.proofs.Splicing.{nodes-none, nodes-next, nodes-length, rows_fit}
use Rattle.watchdog.proofs.put.Watched.put_moves.Goals as goal

pub loop-i-init : goal.loop-i-init
loop-i-init c = nodes-none _ _ _ _

pub loop-i-preserved : goal.loop-i-preserved
loop-i-preserved c = let f = c.args.self.now in
    let l = c.loop-i in
    let k = ap (λ (g : Form). g.count) c.self.view_is in
    let r = rows_fit l.i f.count f.events (omega (arith, k)) in
    nodes-next f.next f.count f.events l.i c.args.ms.now l.ms _ l.invariant refl (omega arith) (rw c.self.view_is at c.put_node.ensures)

pub returns : goal.returns
returns c = let f = c.args.self.now in
    let l = c.loop-i in
    let k = ap (λ (g : Form). g.count) c.self.view_is in
    let e : l.i ≡ f.count = omega (arith, k) in
    let n = nodes-length f.next f.count f.events f.count in
    moves_more 0 (node_moves f.next f.count f.events f.count) (move f.count (f.events + 1) f.count ∷ []) c.args.ms.now l.ms _
    (l.invariant
    ∙ ap (λ (i : ℕ). into 0 (move_bytes (node_moves f.next f.count f.events i)) c.args.ms.now) e)
    (omega arith) (omega arith) (rw c.self.view_is at c.put_move.ensures)
