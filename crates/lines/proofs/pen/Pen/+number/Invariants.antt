use Rattle.lines.proofs.pen.Pen.+number.Given as goal

abbrev pub decreases-number : goal.decreases-number
decreases-number g l = l.n
