-- Where the moves of a state begin: moves passed over, one or two at a time.
use mathlib.Core.Path.{◌≡◌, subst}
use mathlib.Core.List.{List}
use Prim.Native.Nat.{ℕ, ◌+◌, ◌≤◌, ◌<◌}
use native.Mathlib.Omega.{arith}
use native.Mathlib.Decide.{dec_lt}
use borrow.Author.Count.{below_more}
use Rattle.tables.specs.Moves.{move_at}
use Rattle.tables.specs.Seek.{Seeks}

-- the moves from i up to k are of states below s
abbrev pub Lower : List ℕ → ℕ → ℕ → ℕ → Type 0
Lower ms i s k = (j : ℕ) → j < k → i ≤ j → (move_at ms j).from < s

-- at k the moves of s may begin
pub seeks_here : (ms : List ℕ) (m k s : ℕ) → k ≤ m → s ≤ (move_at ms k).from → Seeks ms m k s k
seeks_here ms m k s h t = record { from = omega arith; within = h; lower = λ j a b. absurd (omega arith); stops = λ l. t }

-- one move at most is left, and it is of a lower state
pub seeks_end : (ms : List ℕ) (m k s : ℕ) → (k ≤ m) × (m ≤ k + 1) → (k < m → (move_at ms k).from < s) → Seeks ms m k s m
seeks_end ms m k s h t = record {
  from = h.0;
  within = omega arith;
  lower = λ j a b. let e : k ≡ j = omega (arith, h.1) in subst (λ (x : ℕ). (move_at ms x).from < s) e (t (omega arith));
  stops = λ l. absurd (omega arith);
}

-- what is found from k on is found from i on, if the moves between are of lower states
pub seeks_on : (ms : List ℕ) (m i k s r : ℕ) → i ≤ k → Lower ms i s k → Seeks ms m k s r → Seeks ms m i s r
seeks_on ms m i k s r h L S = record {
  from = omega (arith, S.from);
  within = S.within;
  lower = λ j a b. go j a b (dec_lt j k);
  stops = S.stops;
}
  where
    go : (j : ℕ) → j < r → i ≤ j → Dec (j < k) → (move_at ms j).from < s
    go j a b (yes l) = L j l b
    go j a b (no g) = S.lower j a (omega arith)

pub lower_more : (ms : List ℕ) (i s k : ℕ) → Lower ms i s k → (move_at ms k).from < s → Lower ms i s (k + 1)
lower_more ms i s k L h = below_more (λ (j : ℕ). i ≤ j → (move_at ms j).from < s) k L (λ b. h)
