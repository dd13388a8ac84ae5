-- The moves of a row as a list: what is in it, and its moves as numbers.
use Prim.Native.Nat.{ℕ, zero, suc, ◌<◌, ◌≤◌, ◌+◌, ◌*◌}
use mathlib.Core.Path.{◌≡◌, refl, sym, ap, ap₂, ◌∙◌}
use mathlib.Core.Logic.{⊎_elim}
use mathlib.Core.List.Memᴰ
use mathlib.Core.List.{List, [], ◌∷◌, ◌++◌, append_assoc, Memᴰ}
use native.Mathlib.Omega.{arith}
use native.Mathlib.Nat.{eq-or-lt_of_le}
use lib.ListN.{length, take, get_or, length-append}
use lib.Seq.{take-suc, take_all}
use Rattle.csp.specs.Table.{Move}
use Rattle.tables.specs.Moves.{listed}
use Rattle.tables.specs.Bytes.{row, threes}

-- v stands in the row, below m
pub record Stands (at : ℕ → Move) (m : ℕ) (v : Move) : Type 0 where
  pub number : ℕ
  pub below : number < m
  pub is : at number ≡ v

-- a move is its three numbers
pub same_move : {a b : Move} → a.from ≡ b.from → a.event ≡ b.event → a.to ≡ b.to → a ≡ b
same_move x y z i = record { from = x i; event = y i; to = z i }

module _ (at : ℕ → Move) where
  pub row-length : (m : ℕ) → length (row at m) ≡ m
  unfolding row
  row-length zero = refl
  row-length (suc m) = omega (arith, length-append (row at m) (at m ∷ []), row-length m)

  pub in_row : (m j : ℕ) → j < m → Memᴰ (at j) (row at m)
  unfolding row
  in_row zero j h = absurd (omega arith)
  in_row (suc m) j h =
      let le : j ≤ m = omega arith in
      ⊎_elim
      (λ e. Memᴰ.append_right (row at m) (Memᴰ.head (ap at e)))
      (λ l. Memᴰ.append_left (at m ∷ []) (in_row m j l))
      (eq-or-lt_of_le le)

  pub of_row : (m : ℕ) (v : Move) → Memᴰ v (row at m) → Stands at m v
  unfolding row
  of_row zero v i = absurd (Memᴰ.not-nil i)
  of_row (suc m) v i =
      ⊎_elim
      (λ l. let s = of_row m v l in record { number = s.number; below = omega (arith, s.below); is = s.is })
      (λ l. record { number = m; below = omega arith; is = sym (Memᴰ.eq_of_singleton l) })
      (Memᴰ.append_cases (row at m) i)

-- rows of the same moves are the same list
pub row_same : (f g : ℕ → Move) (m : ℕ) → ((j : ℕ) → j < m → f j ≡ g j) → row f m ≡ row g m
unfolding row
row_same f g zero h = refl
row_same f g (suc m) h =
    ap₂ (λ (l : List Move) (v : Move). l ++ (v ∷ [])) (row_same f g m (λ j k. h j (omega arith))) (h m (omega arith))

-- the numbers of a list of moves
pub threes-append : (a b : List Move) → threes (a ++ b) ≡ threes a ++ threes b
unfolding threes
threes-append [] b = refl
threes-append (v ∷ a) b = ap (λ (x : List ℕ). v.from ∷ v.event ∷ v.to ∷ x) (threes-append a b)

pub length-threes : (l : List Move) → length (threes l) ≡ 3 * length l
unfolding threes
length-threes [] = refl
length-threes (v ∷ l) = let h = length-threes l in omega arith

threes_inj : (a b : List Move) → threes a ≡ threes b → a ≡ b
unfolding threes
threes_inj [] [] h = refl
threes_inj [] (w ∷ b) h = absurd (let z : ◌≡◌ {A = ℕ} 0 1 = cc in omega arith)
threes_inj (v ∷ a) [] h = absurd (let z : ◌≡◌ {A = ℕ} 0 1 = cc in omega arith)
threes_inj (v ∷ a) (w ∷ b) h =
    let r : threes a ≡ threes b = cc in
    ap₂ (λ (x : Move) (l : List Move). x ∷ l) (same_move (cc) (cc) (cc)) (threes_inj a b r)

take_three : (l : List ℕ) (k : ℕ) → k + 2 < length l →
    take (k + 3) l ≡ take k l ++ (get_or l k 0 ∷ get_or l (k + 1) 0 ∷ get_or l (k + 2) 0 ∷ [])
take_three l k h =
    let e : k + 3 ≡ suc (suc (suc k)) = omega arith in
    let e₁ : k + 1 ≡ suc k = omega arith in
    let e₂ : k + 2 ≡ suc (suc k) = omega arith in
    rw (e, e₁, e₂)
    (take-suc l (suc (suc k)) 0 (omega arith)
    ∙ ap (λ (x : List ℕ). x ++ (get_or l (suc (suc k)) 0 ∷ [])) (take-suc l (suc k) 0 (omega arith)
    ∙ ap (λ (x : List ℕ). x ++ (get_or l (suc k) 0 ∷ [])) (take-suc l k 0 (omega arith)))
    ∙ append_assoc (take k l ++ (get_or l k 0 ∷ [])) (get_or l (suc k) 0 ∷ []) (get_or l (suc (suc k)) 0 ∷ [])
    ∙ append_assoc (take k l) (get_or l k 0 ∷ []) (get_or l (suc k) 0 ∷ get_or l (suc (suc k)) 0 ∷ []))

-- the moves of a list of numbers, as numbers
pub threes-row : (l : List ℕ) (m : ℕ) → 3 * m ≤ length l → threes (row (listed l) m) ≡ take (3 * m) l
unfolding row listed threes
threes-row l zero h = refl
threes-row l (suc m) h =
    let e : 3 * m + 3 ≡ 3 * suc m = omega arith in
    threes-append (row (listed l) m) (listed l m ∷ [])
    ∙ ap (λ (x : List ℕ). x ++ threes (listed l m ∷ [])) (threes-row l m (omega arith))
    ∙ sym (take_three l (3 * m) (omega arith))
    ∙ ap (λ (k : ℕ). take k l) e

-- a list of moves, as numbers, as moves
pub row-threes : (l : List Move) → row (listed (threes l)) (length l) ≡ l
row-threes l =
    threes_inj _ l
    (threes-row (threes l) (length l) (omega (arith, length-threes l))
    ∙ take_all (3 * length l) (threes l) (omega (arith, length-threes l)))
