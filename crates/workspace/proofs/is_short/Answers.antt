use borrow.Author.Tests.{lt-ltb, le-ltb}
use Rattle.workspace.specs.Workspace.{short}
use Rattle.workspace.proofs.is_short.Goals as goal

pub returns-then-work16-lt32768 : goal.returns-then-work16-lt32768
unfolding short
returns-then-work16-lt32768 c = simp (lt-ltb _ _ c.if-work16-lt32768.true)

pub returns-else-work16-lt32768 : goal.returns-else-work16-lt32768
unfolding short
returns-else-work16-lt32768 c = simp (le-ltb _ _ c.if-work16-lt32768.false)
