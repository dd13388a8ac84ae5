use Rattle.rhythmoxa.proofs.rhx_check_short.Goals as goal

pub returns : goal.returns
returns c = record { answer = c.check_short.result; call = c.check_short.ensures; told = c.numbers.ensures }
