use Prim.Native.Nat.{ℕ, ◌*◌}
use mathlib.Core.List.{List, ◌++◌}
use mathlib.Core.Path.{ap, ◌∙◌}
use lib.ListN.{take, drop, length}
use Rattle.tables.specs.Numbers.{bytes}
use Rattle.tables.proofs.Parts.{tail_lent, tail_back}
use Rattle.tables.proofs.Writing.{table_put}
use Rattle.tables.proofs.write.put_table.Goals as goal

pub returns : goal.returns
returns c = let l = c.args.list.now in
    let o = c.put_header.new.out in
    tail_back 12 o c.put_all.new.t
    ∙ ap (λ (x : List ℕ). take 12 o ++ x) (c.put_all.ensures
    ∙ ap (λ (x : List ℕ). bytes l ++ drop (2 * length l) x) (tail_lent 12 o))
    ∙ table_put _ _ _ l c.requires.1.1 _ _ c.put_header.ensures
