use Rattle.rhythmoxa.proofs.numbers.UsizeAnswer.numbers.Goals as goal

pub returns : goal.returns
returns c = c.values.ensures
