use Prim.Native.Nat.{ℕ}
use mathlib.Core.List.{List}
use mathlib.Core.Path.{ap, sym, ◌∙◌}
use native.Mathlib.Omega.{arith}
use lib.ListN.{drop, length-drop}
use Rattle.tables.specs.State.{of_state}
use Rattle.tables.proofs.Tested.{good}
use Rattle.tables.proofs.PartMoves.{part_bytes}
use Rattle.tables.proofs.table.Table.moves_of.Goals as goal

pub part_of-requires : goal.part_of-requires
part_of-requires c = let g = good _ c.count.ensures.good in
    rw (c.moves.ensures.part, c.count.ensures.count) (omega (arith, g.frame.size, length-drop 12 c.args.self.now), (c.requires, g.moves.ascending))

pub returns : goal.returns
returns c = record {
  part = c.part_of.ensures
      ∙ ap (λ (l : List ℕ). of_state l c.args.state c.count.result) c.moves.ensures.part
      ∙ ap (of_state (drop 12 c.args.self.now) c.args.state) c.count.ensures.count
      ∙ sym (part_bytes c.args.self.now c.count.ensures.good c.args.state);
  good = c.count.ensures.good;
}
