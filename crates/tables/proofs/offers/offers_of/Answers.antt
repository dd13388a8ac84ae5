use Prim.Native.Nat.{◌/◌}
use native.Mathlib.Omega.{arith}
use lib.ListN.{length}
use Rattle.tables.specs.Moves.{move_at}
use Rattle.tables.proofs.Rows.{in_row}
use Rattle.tables.proofs.PartOffers.{visible_next}
use Rattle.tables.proofs.offers.offers_of.Goals as goal

pub with_visible-set-requires : goal.with_visible-set-requires
with_visible-set-requires c = let p = c.args.part.now in
    omega (arith, c.requires (move_at p c.loop-j.j) (in_row (move_at p) (length p / 6) c.loop-j.j (omega arith)))

pub loop-j-preserved : goal.loop-j-preserved
loop-j-preserved c = let l = c.loop-j in
    visible_next (move_at c.args.part.now) l.j _ _ _ c.event_at.ensures l.invariant c.with_visible-set.ensures
