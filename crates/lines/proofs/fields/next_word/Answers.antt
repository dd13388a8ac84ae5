use mathlib.Core.Path.{refl}
use mathlib.Core.List.{[], ◌∷◌}
use Rattle.lines.proofs.Drawing.{draws_then}
use Rattle.lines.proofs.fields.next_word.Goals as goal

pub returns : goal.returns
returns g c = draws_then g.P.Pen.laws {a = _ ∷ []} _ refl c.in_ok-byte.ensures.ok c.word.ensures
