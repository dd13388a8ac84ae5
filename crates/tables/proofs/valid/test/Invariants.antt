use Rattle.tables.specs.Moves.{move_at}
use Rattle.tables.specs.contracts.valid.fn.test.test as closure
use Rattle.tables.proofs.valid.test.Given as goal

abbrev pub ghost-test : goal.ghost-test
ghost-test a = move_at (closure.captures a.at).part.now
