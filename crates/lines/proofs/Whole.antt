-- A whole row of bytes, put from the front of the buffer.
use Prim.Native.Nat.{ℕ, ◌≤◌}
use mathlib.Core.Path.{◌≡◌, ap, ◌∙◌}
use mathlib.Core.List.{List, ◌++◌}
use native.Mathlib.Omega.{arith}
use native.Mathlib.Nat.{zero-add}
use lib.ListN.{length, drop}
use lib.Seq.{sets, sets-eq}
use Rattle.tables.specs.Numbers.{over}

-- a row that fits is put in front of the old bytes
pub put_front : (b old now : List ℕ) {new : List ℕ} → length b ≤ length old → now ≡ sets old 0 b → new ≡ now → new ≡ over b old
put_front b old now h e g = g ∙ e ∙ sets-eq b old 0 (omega arith) ∙ ap (λ (k : ℕ). b ++ drop k old) (zero-add (length b))
