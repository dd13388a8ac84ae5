use mathlib.Core.Path.{refl}
use native.Mathlib.Omega.{arith}
use lib.ListN.{length-drop}
use Rattle.tables.proofs.Tested.{good}
use Rattle.rhythmoxa.proofs.Standing.{placed_none, placed_some}
use Rattle.rhythmoxa.proofs.place.place_in.Goals as goal

pub returns-then-size-eq0 : goal.returns-then-size-eq0
returns-then-size-eq0 c = placed_none _ _ _ c.moves_of-size.ensures.part _ c.if-size-eq0.true refl refl

pub seek-i-requires : goal.seek-i-requires
seek-i-requires c = let g = good _ c.count.ensures.good in
    rw (c.moves.ensures.part, c.count.ensures.count) (omega (arith, g.frame.size, length-drop 12 c.args.table.now), omega arith)

pub overflow_mul-result : goal.overflow_mul-result
overflow_mul-result c = omega (arith, c.seek-i.ensures.within, c.count.ensures.count, (good _ c.count.ensures.good).limits.moves)

pub overflow_add-result : goal.overflow_add-result
overflow_add-result c = omega (arith, c.seek-i.ensures.within, c.count.ensures.count, (good _ c.count.ensures.good).limits.moves)

pub returns : goal.returns
returns c =
    placed_some _ _ _ c.moves_of-size.ensures.part c.if-size-eq0.false c.seek-i.result _
    (rw (c.moves.ensures.part, c.count.ensures.count) at c.seek-i.ensures) refl refl
