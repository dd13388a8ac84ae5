use native.Mathlib.Omega.{arith}
use borrow.Author.Tests.{eq-eqb, ne_eqb}
use Rattle.watchdog.proofs.put.target_of.Goals as goal

pub returns-then-next-eq255 : goal.returns-then-next-eq255
returns-then-next-eq255 c = (simp (eq-eqb _ _ c.if-next-eq255.true), omega (arith, c.requires))

pub returns : goal.returns
returns c = (simp (ne_eqb _ _ c.if-next-eq255.false) c.from.ensures, omega (arith, c.from.ensures))
