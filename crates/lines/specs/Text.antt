-- Words and numbers as bytes.
use Rattle.std.specs.Prelude.{ℕ, zero, suc, ◌+◌, ◌/◌, ◌%◌, cond, List, [], ◌∷◌, ◌++◌, ltb}
use Prim.Native.Char.{code}
use Prim.Native.String.{String, [] as nothing, ◌∷◌ as ◌then◌}

-- the bytes of a word, a byte a letter
unfoldable pub letters : String → List ℕ
letters nothing = []
letters (c then s) = code c ∷ letters s

-- the byte of a number below ten
abbrev pub digit : ℕ → ℕ
digit d = code "0" + d

-- the digits of n, the highest first, by dividing by ten while more than one digit is left, at most `times` times
unfoldable pub digits : ℕ → ℕ → List ℕ
digits zero n = digit n ∷ []
digits (suc times) n = cond (ltb n 10) (digit n ∷ []) (digits times (n / 10) ++ (digit (n % 10) ∷ []))

-- "numbers in decimal"; n divisions by ten are enough for n
unfoldable pub decimal : ℕ → List ℕ
decimal n = digits n n
