use Prim.Native.Nat.{◌/◌}
use mathlib.Core.Path.{◌≡◌, refl, sym, ◌∙◌}
use native.Mathlib.Omega.{arith}
use lib.ListN.{length}
use Rattle.std.proofs.Common.{rules}
use Rattle.std.proofs.lemmas.Iterator.{YieldsList-from_range}
use Rattle.std.proofs.lemmas.Iterator.Search.{all_from_yields_List}
use Rattle.std.specs.List.{list_all, range_with_len}
use Rattle.tables.specs.Moves.{move_at}
use Rattle.tables.proofs.PartOffers.{heard, still_all, all_still}
use Rattle.tables.proofs.offers.is_stable.Goals as goal

pub returns : goal.returns
unfolding heard
returns c = let at = move_at c.args.part.now in
    let m = length c.args.part.now / 6 in
    let r : c.all.result ≡ list_all (heard at) (range_with_len 0 m) =
    all_from_yields_List (heard at) _ _ c.all.result c.all.ensures.ran (YieldsList-from_range 0 m m refl (omega arith)) (λ x b q k. search rules) in
    (λ e. still_all at m (sym r ∙ e), λ h. r ∙ all_still at m h)
