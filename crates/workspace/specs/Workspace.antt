-- The two workspaces that check and watchdog are lent.
use Rattle.std.specs.Prelude.{Bool, ◌||◌, List, ℕ, length, replicate, ltb}

-- 11: "a workspace is short: below 32,768 16-bit numbers or 128 64-bit numbers"
unfoldable pub short : List ℕ → List ℕ → Bool
short work16 work64 = ltb (length work16) 32768 || ltb (length work64) 128

-- "Check and watchdog clear both workspaces to zero over their whole length, refused or not, short or not."
abbrev pub cleared : List ℕ → List ℕ
cleared work = replicate (length work) 0
