use mathlib.Core.Path.{ap, sym, ◌∙◌}
use Rattle.rhythmoxa.specs.Layout.{verdict_numbers}
use Rattle.rhythmoxa.proofs.numbers.VerdictAnswer.numbers.Goals as goal

pub returns-in-Passes : goal.returns-in-Passes
returns-in-Passes c = c.values.ensures ∙ sym (ap verdict_numbers c.in-Passes.is)

pub returns-in-RefusalFault : goal.returns-in-RefusalFault
returns-in-RefusalFault c = c.values-in-RefusalFault.ensures ∙ sym (ap verdict_numbers c.in-RefusalFault.is)
