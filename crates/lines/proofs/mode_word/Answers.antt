use Rattle.lines.specs.Text.{letters}
use Rattle.lines.proofs.Making.{mode_traces, mode_failures}
use Rattle.lines.proofs.mode_word.Goals as goal

pub returns-then-mode-eq0 : goal.returns-then-mode-eq0
unfolding letters
returns-then-mode-eq0 g c = rw (mode_traces _ c.if-mode-eq0.true) c.word.ensures

pub returns-else-mode-eq0 : goal.returns-else-mode-eq0
unfolding letters
returns-else-mode-eq0 g c = rw (mode_failures _ c.if-mode-eq0.false) c.word-else-mode-eq0.ensures
