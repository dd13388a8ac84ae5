-- Two outcomes that the line maker's contract allows are equal.
use Prim.Native.Nat.{ℕ}
use mathlib.Core.Path.{◌≡◌, sym, ◌∙◌}
use mathlib.Core.List.{List}
use Rattle.std.specs.Prelude.{Result}
use Rattle.refine.specs.declared.verdict.Verdict.{Verdict}
use Rattle.lines.specs.Maker.{makes}
use Rattle.lines.specs.declared.answer.Short.{Short}

pub line_unique :
    (v : Verdict) (trace : List ℕ) (mode : ℕ) (old : List ℕ) (a b : Result ℕ Short) (x y : List ℕ) →
    (a ≡ (makes v trace mode old).answer) × (x ≡ (makes v trace mode old).out) →
    (b ≡ (makes v trace mode old).answer) × (y ≡ (makes v trace mode old).out) → (a ≡ b) × (x ≡ y)
line_unique v trace mode old a b x y p q = (p.0 ∙ sym q.0, p.1 ∙ sym q.1)
