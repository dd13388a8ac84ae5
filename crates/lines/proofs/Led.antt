-- Rows of fields, each after a space, as rows of bytes.
use Prim.Native.Nat.{ℕ, ◌+◌, ◌<◌}
use Prim.Native.String.{String}
use mathlib.Core.Path.{◌≡◌, refl, sym, ap, ◌∙◌}
use mathlib.Core.List.{List, [], ◌∷◌, ◌++◌, append_assoc, append-nil}
use native.Mathlib.Numerals.{add-one}
use lib.ListN.{length, take, drop, get_or, take-append-drop}
use lib.Seq.{take-suc}
use Rattle.lines.specs.Text.{letters, decimal}
use Rattle.lines.specs.Fields.{Field, word, number, bytes_of, space, apart}
use Rattle.lines.specs.Report.{events}
use Rattle.lines.specs.Pen.{led}

-- one row of fields, then another
pub led-append : (f g : List Field) → led (f ++ g) ≡ led f ++ led g
unfolding led
led-append [] g = refl
led-append (a ∷ f) g =
    ap (λ (l : List ℕ). space ∷ (bytes_of a ++ l)) (led-append f g)
    ∙ sym (ap (λ (l : List ℕ). space ∷ l) (append_assoc (bytes_of a) (led f) (led g)))

-- no field; a word, then other fields
pub led-none : led [] ≡ []
unfolding led
led-none = refl

pub led-word : (w : String) (g : List Field) → led (word w ∷ g) ≡ (space ∷ letters w) ++ led g
unfolding led
led-word w g = refl

-- a word, some fields, and some more
pub led-word_then : (w : String) (f g : List Field) → led (word w ∷ (f ++ g)) ≡ ((space ∷ letters w) ++ led f) ++ led g
led-word_then w f g =
    led-word w (f ++ g)
    ∙ ap (λ (l : List ℕ). (space ∷ letters w) ++ l) (led-append f g)
    ∙ sym (append_assoc (space ∷ letters w) (led f) (led g))

-- a number alone
pub led-number : (n : ℕ) → led (number n ∷ []) ≡ (space ∷ []) ++ decimal n
unfolding led
led-number n = ap (λ (l : List ℕ). space ∷ l) (append-nil (decimal n))

pub events-append : (s t : List ℕ) → events (s ++ t) ≡ events s ++ events t
events-append [] t = refl
events-append (e ∷ s) t = ap (λ (l : List Field). number e ∷ l) (events-append s t)

-- more events after those before
pub led-events-append : (s t : List ℕ) → led (events (s ++ t)) ≡ led (events s) ++ led (events t)
led-events-append s t = ap led (events-append s t) ∙ led-append (events s) (events t)

-- a trace, event by event
pub led-next :
    (s : List ℕ) (i : ℕ) → i < length s → led (events (take (i + 1) s)) ≡ led (events (take i s)) ++ led (number (get_or s i 0) ∷ [])
led-next s i h = rw (add-one, take-suc s i 0) (led-events-append (take i s) (get_or s i 0 ∷ []))

-- the events before one, that one, and those after it
pub led-rest :
    (s : List ℕ) (i : ℕ) → i < length s →
    led (events s) ≡ (led (events (take i s)) ++ led (number (get_or s i 0) ∷ [])) ++ led (events (drop (i + 1) s))
led-rest s i h =
    ap (λ (l : List ℕ). led (events l)) (sym (take-append-drop (i + 1) s))
    ∙ led-events-append (take (i + 1) s) (drop (i + 1) s)
    ∙ ap (λ (l : List ℕ). l ++ led (events (drop (i + 1) s))) (led-next s i h)

-- the first field has no space before it
pub apart-led : (f : Field) (r : List Field) → apart (f ∷ r) ≡ bytes_of f ++ led r
unfolding apart led
apart-led f [] = sym (append-nil (bytes_of f))
apart-led f (g ∷ r) = ap (λ (l : List ℕ). bytes_of f ++ (space ∷ l)) (apart-led g r)
