use Rattle.tables.specs.Moves.{listed}
use Rattle.tables.specs.contracts.listed.fn.test.test as closure
use Rattle.tables.proofs.listed.test.Given as goal

abbrev pub ghost-test : goal.ghost-test
ghost-test a = listed (closure.captures a.at).list.now
