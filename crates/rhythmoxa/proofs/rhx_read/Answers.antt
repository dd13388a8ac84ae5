use Rattle.rhythmoxa.proofs.rhx_read.Goals as goal

pub returns : goal.returns
returns c = record { answer = c.read.result; call = c.read.ensures; told = c.numbers.ensures }
