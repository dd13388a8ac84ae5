use Rattle.rhythmoxa.proofs.rhx_join.Goals as goal

pub returns : goal.returns
returns c = record { answer = c.join.result; call = c.join.ensures; told = c.numbers.ensures }
