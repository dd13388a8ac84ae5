use mathlib.Core.Path.{ap, sym}
use Rattle.tables.specs.Answers.{whose}
use Rattle.tables.proofs.answer.Refusal.whose.Goals as goal

pub returns-in-Flow : goal.returns-in-Flow
returns-in-Flow c = sym (ap whose c.in-Flow.is)
