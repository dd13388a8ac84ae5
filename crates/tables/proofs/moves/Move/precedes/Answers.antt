use mathlib.Core.Path.{◌∙◌}
use native.Mathlib.Omega.{arith}
use Rattle.tables.proofs.Order.{precedes_carried, wrapped_or_below}
use Rattle.tables.proofs.moves.Move.precedes.Goals as goal

pub returns : goal.returns
returns c = let s = c.overflowing_add-bound.ensures in
    wrapped_or_below _ _ c.lead-2.type_inv s.overflow s.value ∙
    rw (c.lead-2.ensures, c.lead.ensures, c.from.ensures) (precedes_carried _ _ (omega arith) (omega arith))
