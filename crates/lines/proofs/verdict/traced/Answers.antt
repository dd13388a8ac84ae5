use mathlib.Core.List.{[], ◌∷◌}
use Rattle.lines.proofs.Drawing.{draws_then, draws_short}
use Rattle.lines.proofs.Led.{led-append}
use Rattle.lines.proofs.verdict.traced.Goals as goal

pub returns-in_err-next_number : goal.returns-in_err-next_number
returns-in_err-next_number g c =
    draws_short g.P.Pen.laws _ _ (led-append (_ ∷ []) _) c.from_residual.ensures.0 c.in_err-next_number.ensures

pub returns : goal.returns
returns g c = draws_then g.P.Pen.laws _ (led-append (_ ∷ []) _) c.in_ok-next_number.ensures.ok c.events.ensures
