-- For inner functions only: bytes taken as a good table, or refused.
use Rattle.std.specs.Prelude.{ℕ, ◌≡◌, List, None, Some}
use Rattle.tables.specs.Valid.{refusal}
use Rattle.tables.specs.declared.answer.Refusal.{Refusal}

-- v, the bytes that a value of type Table holds, are t, which no test refuses
pub record Held (t v : List ℕ) : Type 0 where
  pub bytes : v ≡ t
  pub good : refusal t ≡ None

-- w says the first of 1 to 7 that applies to t, and, by its constructor, whose it is
pub record Faulted (of : ℕ → Refusal) (t : List ℕ) (w : Refusal) : Type 0 where
  pub number : ℕ
  pub first : refusal t ≡ Some number
  pub is : w ≡ of number
