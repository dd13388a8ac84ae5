use Rattle.lines.proofs.Numbers.{decimal_one, decimal_more}
use Rattle.lines.proofs.Drawing.{draws_then, draws_short}
use Rattle.lines.proofs.pen.Pen.+number.Goals as goal

pub returns-then-n-lt10 : goal.returns-then-n-lt10
returns-then-n-lt10 g t c = rw (decimal_one c.args.n c.if-n-lt10.true) c.byte.ensures

pub returns-in_err-number : goal.returns-in_err-number
returns-in_err-number g t c =
    draws_short g.Self.Pen.laws _ _ (decimal_more _ c.if-n-lt10.false) c.from_residual.ensures.0 c.in_err-number.ensures

pub returns : goal.returns
returns g t c =
    draws_then g.Self.Pen.laws _ (decimal_more _ c.if-n-lt10.false) c.in_ok-number.ensures.ok c.byte-2.ensures
