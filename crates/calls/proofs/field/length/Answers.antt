use native.Mathlib.Omega.{arith}
use Rattle.calls.proofs.field.length.Goals as goal

pub returns : goal.returns
returns c = omega arith
