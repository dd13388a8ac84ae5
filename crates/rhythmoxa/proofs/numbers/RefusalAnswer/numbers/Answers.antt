use Prim.Native.Nat.{ℕ}
use mathlib.Core.List.{[], ◌∷◌}
use mathlib.Core.Path.{ap₂, ◌∙◌}
use Rattle.rhythmoxa.specs.Layout.{refused_kind}
use Rattle.rhythmoxa.proofs.numbers.RefusalAnswer.numbers.Goals as goal

pub returns : goal.returns
returns c = ap₂ (λ (whose number : ℕ). refused_kind ∷ whose ∷ number ∷ 0 ∷ 0 ∷ 0 ∷ 0 ∷ 0 ∷ [])
    (c.from-whose.ensures ∙ c.whose.ensures)
    (c.from-number.ensures ∙ c.number.ensures)
