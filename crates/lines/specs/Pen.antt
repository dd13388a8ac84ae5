-- For inner functions only: bytes counted or put one by one.
use Rattle.std.specs.Prelude.{ℕ, suc, ◌+◌, ◌-◌, ◌≡◌, ◌<◌, ◌≤◌, List, [], ◌∷◌, ◌++◌, length, OnOk, OnErr, Result}
use mathlib.Core.Path.{refl, ap, ap₂, ◌∙◌}
use native.Mathlib.Omega.{arith}
use lib.ListN.{set, length-append}
use lib.Seq.{sets, length-sets}
use Rattle.lines.specs.Fields.{Field, bytes_of, space}
use Rattle.lines.specs.declared.answer.Short.{Short}
use Rattle.lines.specs.declared.pen.Count.{Count}
use Rattle.lines.specs.declared.pen.Put.{Put}

-- No bytes leave a pen as it is; one row and then another are one row; each byte takes its room.
pub record PenLaws {P : Type 0} (room : P → ℕ) (took : P → List ℕ → P → Type 0) : Type 0 where
  pub none : (p : P) → took p [] p
  pub joined : (p q r : P) (a b : List ℕ) → took p a q → took q b r → took p (a ++ b) r
  pub used : (p q : P) (a : List ℕ) → took p a q → room p ≡ length a + room q

-- A pen takes the whole row of bytes, or has less room than that.
pub record Draws {P : Type 0} (room : P → ℕ) (took : P → List ℕ → P → Type 0) (bytes : List ℕ) (old : P) (answer : Result (Unit {0}) Short) (new : P) : Type 0 where
  pub ok : OnOk answer (took old bytes new)
  pub err : OnErr answer (room old < length bytes)

-- a pen that counts has less room by each byte
abbrev pub count_room : Count → ℕ
count_room p = p.room

abbrev pub Counted : Count → List ℕ → Count → Type 0
Counted old bytes new = old.room ≡ length bytes + new.room

pub count_laws : PenLaws count_room Counted
count_laws = record {
  none = λ p. omega arith;
  joined = λ p q r a b f g. omega (arith, length-append a b);
  used = λ p q a f. f;
}

-- a pen that puts has the room of its buffer from its place on
abbrev pub put_room : Put → ℕ
put_room p = length p.out.now - p.at

-- the bytes stand in the same buffer from the old place on, and the place is the one after them
pub record IsPut (old : Put) (bytes : List ℕ) (new : Put) : Type 0 where
  pub buffer : new.out.ghost_name ≡ old.out.ghost_name
  pub at : new.at ≡ old.at + length bytes
  pub room : length bytes ≤ put_room old
  pub out : new.out.now ≡ sets old.out.now old.at bytes

sets-append : (l : List ℕ) (n : ℕ) (a b : List ℕ) → sets (sets l n a) (n + length a) b ≡ sets l n (a ++ b)
sets-append l n [] b = ap (λ (k : ℕ). sets l k b) (omega arith)
sets-append l n (x ∷ a) b =
    ap (λ (k : ℕ). sets (sets (set l n x) (suc n) a) k b) (omega arith) ∙ sets-append (set l n x) (suc n) a b

pub put_laws : PenLaws put_room IsPut
put_laws = record {
  none = λ p. record { buffer = refl; at = omega arith; room = omega arith; out = refl };
  joined = λ p q r a b f g. record {
    buffer = g.buffer ∙ f.buffer;
    at = omega (arith, f.at, g.at, length-append a b);
    room = omega (arith, f.at, f.room, g.room, ap length f.out, length-sets p.out.now p.at a, length-append a b);
    out = g.out ∙ ap₂ (λ (l : List ℕ) (n : ℕ). sets l n b) f.out f.at ∙ sets-append p.out.now p.at a b;
  };
  used = λ p q a f. omega (arith, f.at, f.room, ap length f.out, length-sets p.out.now p.at a);
}

-- fields that each follow another: a space before each
unfoldable pub led : List Field → List ℕ
led [] = []
led (f ∷ r) = space ∷ bytes_of f ++ led r
