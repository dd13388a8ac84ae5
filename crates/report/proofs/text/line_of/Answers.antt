use Rattle.report.proofs.Putting.{line_put}
use Rattle.report.proofs.text.line_of.Goals as goal

pub returns : goal.returns
returns c =
    rw c.unwrap_or.ensures
    (line_put _ _ _ _ _ _ _ _ c.check-verdict.ensures c.requires _ _ c.line.ensures.answer c.line.ensures.buffer)
