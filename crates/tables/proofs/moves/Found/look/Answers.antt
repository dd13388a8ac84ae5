use Prim.Native.Nat.{ℕ, ◌<◌, ◌≤◌}
use mathlib.Core.Bool.{Bool, not, ◌&&◌, ◌||◌}
use mathlib.Core.Path.{◌≡◌, sym, ap, ◌∙◌}
use lib.Dec.{ltb}
use borrow.Author.Tests.{lt-ltb, le-ltb}
use Rattle.tables.proofs.moves.Found.look.Goals as goal
use Rattle.tables.proofs.moves.Found.look.Goals.{then-j-gt0, else-j-gt0}

-- the first move has none before it
under : {j : ℕ} {r : Bool} (b : Bool) → 0 < j → r ≡ b → r ≡ (ltb 0 j && b)
under {j} b h e = e ∙ sym (ap (λ (t : Bool). t && b) (lt-ltb 0 j h))

beyond : {j : ℕ} {r : Bool} (b : Bool) → j ≤ 0 → r ≡ ltb 0 j → r ≡ (ltb 0 j && b)
beyond {j} b h e = e ∙ le-ltb 0 j h ∙ sym (ap (λ (t : Bool). t && b) (le-ltb 0 j h))

pub returns-clause-disordered : goal.returns-clause-disordered
returns-clause-disordered c =
    ap (◌||◌ c.args.self.disordered) (elim c.if-j-gt0.branch [
      | then-j-gt0 w ↦ under _ w.if-j-gt0.true (w.result-is ∙ ap not w.precedes.ensures)
      | else-j-gt0 w ↦ beyond _ w.if-j-gt0.false w.result-is
    ])

-- the check finds this without an answer, and it stands here for what fails where an earlier circle is forgotten
pub returns-clause-circling : goal.returns-clause-circling
returns-clause-circling c = ap (◌||◌ c.args.self.circling) c.circles.ensures
