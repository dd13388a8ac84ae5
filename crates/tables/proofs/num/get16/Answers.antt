use native.Mathlib.Omega.{arith}
use Rattle.tables.proofs.num.get16.Goals as goal

pub returns : goal.returns
returns c = omega (arith, c.from_le_bytes.ensures)
