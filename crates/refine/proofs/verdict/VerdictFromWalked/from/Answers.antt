use Rattle.refine.specs.Walking.{told_as}
use mathlib.Core.Path.{ap, sym}
use Rattle.refine.proofs.verdict.VerdictFromWalked.from.Goals as goal

pub returns-in-Passes : goal.returns-in-Passes
returns-in-Passes c = sym (ap told_as c.in-Passes.is)

pub returns-in-TraceFault : goal.returns-in-TraceFault
returns-in-TraceFault c = sym (ap told_as c.in-TraceFault.is)
