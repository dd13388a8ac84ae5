use mathlib.Core.Path.{sym, ◌∙◌}
use Rattle.lines.proofs.Drawing.{draws_none}
use Rattle.lines.proofs.Members.{member-out}
use Rattle.lines.proofs.offers.member.Goals as goal

pub returns-else-has_one : goal.returns-else-has_one
returns-else-has_one g c = draws_none g.P.Pen.laws _ (member-out _ _ (sym c.has_one.ensures ∙ c.if-has_one.false))
