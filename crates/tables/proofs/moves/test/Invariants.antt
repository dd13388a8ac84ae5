use Prim.Native.Nat.{ℕ, ◌+◌}
use mathlib.Core.Bool.{false}
use mathlib.Core.Path.{◌≡◌}
use Rattle.tables.specs.Moves.{meant}
use Rattle.tables.specs.Valid.{misnamed, disordered, circling}
use Rattle.tables.proofs.moves.test.Given as goal

abbrev pub invariant-loop-j : goal.invariant-loop-j
invariant-loop-j g l = record {
  clear : l.found.misnamed ≡ false;
  named : misnamed l.n l.e g.moves l.j ≡ false;
  disordered : l.found.disordered ≡ disordered g.moves l.j;
  circling : l.found.circling ≡ circling g.moves l.j;
  last : (i : ℕ) → i + 1 ≡ l.j → meant l.found.last ≡ g.moves i;
}
