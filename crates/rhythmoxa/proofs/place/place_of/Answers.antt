use mathlib.Core.Path.{refl, sym}
use Rattle.rhythmoxa.proofs.Standing.{moves_refused, placed_none}
use Rattle.rhythmoxa.proofs.place.place_of.Goals as goal

pub returns-in-Ok : goal.returns-in-Ok
returns-in-Ok c = rw (c.from.ensures, c.in-Ok.ensures.ok.bytes) at c.place_in.ensures

pub returns-in-Err : goal.returns-in-Err
returns-in-Err c = placed_none _ _ _ (sym (moves_refused _ _ c.in-Err.ensures.err.first)) _ refl refl refl
