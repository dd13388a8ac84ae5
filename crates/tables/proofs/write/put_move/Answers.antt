use mathlib.Core.Path.{ap, ◌∙◌}
use Prim.Native.Nat.{ℕ}
use mathlib.Core.List.{List, [], ◌∷◌, ◌++◌}
use lib.ListN.{take, drop}
use Rattle.tables.specs.Bytes.{threes}
use Rattle.tables.specs.Numbers.{bytes}
use Rattle.tables.proofs.Parts.{tail_lent, tail_back}
use Rattle.tables.proofs.write.put_move.Goals as goal

pub returns : goal.returns
unfolding bytes threes
returns c = let a = c.args in
    tail_back a.at a.ms.now c.put_all.new.t
    ∙ ap
    (λ (l : List ℕ). take a.at a.ms.now ++ l)
    (c.put_all.ensures
    ∙ ap (λ (l : List ℕ). bytes (a.from ∷ a.event ∷ a.to ∷ []) ++ drop 6 l) (tail_lent a.at a.ms.now))
