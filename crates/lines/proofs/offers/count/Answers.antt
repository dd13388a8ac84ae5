use Rattle.lines.proofs.Members.{count-ones}
use Rattle.lines.proofs.offers.count.Goals as goal

pub returns : goal.returns
returns c = count-ones 64 c.args.set c.ranges.set.fits
