use Rattle.workspace.proofs.clear.Goals as goal

pub returns : goal.returns
returns c = (c.fill.ensures.after (λ y e. e), c.fill-2.ensures.after (λ y e. e))
