-- What the tests 5 and 7 leave of each move of a row.
use Prim.Native.Nat.{ℕ, ◌<◌, ◌≤◌}
use mathlib.Core.Bool.{true, false}
use mathlib.Core.Path.{◌≡◌, sym, ap, ◌∙◌}
use native.Mathlib.Omega.{arith}
use lib.Dec.{ltb, leb}
use borrow.Author.Tests.{ltb-false, leb-false, eq-eqb}
use Rattle.csp.specs.Table.{Move}
use Rattle.tables.specs.Valid.{misnames, misnamed, circles, circling}
use Rattle.tables.proofs.Some.{or_false, some-none}
use Rattle.tables.proofs.Rows.{Stands}
use Rattle.tables.proofs.Tested.{Sound}

-- a move that names what there is
pub record Named (n E : ℕ) (v : Move) : Type 0 where
  pub from : v.from < n
  pub event : v.event ≤ E
  pub to : v.to < n

pub named : (n E : ℕ) (v : Move) → misnames n E v ≡ false → Named n E v
unfolding misnames
named n E v h =
    let a = or_false (leb n v.from) _ h in
    let b = or_false (ltb E v.event) _ a.1 in
    record { from = leb-false _ _ a.0; event = ltb-false _ _ b.0; to = leb-false _ _ b.1 }

module _ (n E s : ℕ) (at : ℕ → Move) (m : ℕ) (g : Sound n E s at m) where
  -- 5, of each move
  pub each_named : (v : Move) → Stands at m v → Named n E v
  unfolding misnamed
  each_named v i = named n E v (ap (misnames n E) (sym i.is) ∙ some-none _ m i.number g.named i.below)

  -- 7, of each move
  pub no_circle : (v : Move) → Stands at m v → v.event ≡ 0 → v.from ≡ v.to → ⊥
  unfolding circling circles
  no_circle v i z d =
      let n : circles v ≡ false = ap circles (sym i.is) ∙ some-none _ m i.number g.no_circle i.below in
      let y : circles v ≡ true = simp (eq-eqb v.event 0 z, eq-eqb v.from v.to d) in
      let u : true ≡ false = sym y ∙ n in
      let w : ◌≡◌ {A = ℕ} 0 1 = cc in omega arith
