use Rattle.lines.proofs.Drawing.{took_none, took_then, draws_short_then}
use Rattle.lines.proofs.Members.{members-none, members-next, members-rest}
use Rattle.lines.proofs.offers.members.Goals as goal

pub loop-x-init : goal.loop-x-init
loop-x-init g c = took_none g.P.Pen.laws _ (members-none _)

pub loop-x-preserved : goal.loop-x-preserved
loop-x-preserved g c = took_then g.P.Pen.laws (members-next _ _) c.loop-x.invariant c.in_ok-member.ensures.ok

pub returns-in_err-member : goal.returns-in_err-member
returns-in_err-member g c =
    let rest = members-rest c.loop-x.x c.args.set c.loop-x-test.true in
    draws_short_then g.P.Pen.laws _ _ rest.1 c.from_residual.ensures.0 c.loop-x.invariant c.in_err-member.ensures
