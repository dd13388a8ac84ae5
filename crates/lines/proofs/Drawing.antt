-- What any pen does with one row of bytes after another.
use Prim.Native.Nat.{ℕ}
use mathlib.Core.Path.{◌≡◌, ap}
use mathlib.Core.Bool.{false≢true}
use mathlib.Core.List.{List, [], ◌++◌}
use native.Mathlib.Omega.{arith}
use lib.ListN.{length, length-append}
use Rattle.std.specs.Prelude.{Result, Ok, Err, IsErr}
use Rattle.lines.specs.declared.answer.Short.{Short}
use Rattle.lines.specs.Pen.{PenLaws, Draws}

module _ {P : Type 0} {room : P → ℕ} {took : P → List ℕ → P → Type 0} (laws : PenLaws room took) where
  pub took_none : {whole : List ℕ} (p : P) → whole ≡ [] → took p whole p
  took_none p e = rw e (laws.none p)

  pub draws_none : {whole : List ℕ} (p : P) → whole ≡ [] → Draws room took whole p (Ok tt) p
  draws_none p e = record { ok = took_none p e; err = tt }

  -- one row, then another
  pub took_then : {whole a b : List ℕ} {p q r : P} → whole ≡ a ++ b → took p a q → took q b r → took p whole r
  took_then {a = a} {b = b} {p} {q} {r} e f g = rw e (laws.joined p q r a b f g)

  pub draws_then :
      {whole a b : List ℕ} {p q r : P} (x : Result (Unit {0}) Short) → whole ≡ a ++ b → took p a q →
      Draws room took b q x r → Draws room took whole p x r
  draws_then (Ok u) e f g = record { ok = took_then e f g.ok; err = tt }
  draws_then {a = a} {b = b} {p} {q} (Err s) e f g = record { ok = tt; err = omega (arith, laws.used p q a f, g.err, ap length e, length-append a b) }

  -- the pen has no room for a row, the first or the second
  pub draws_short :
      {whole a : List ℕ} (b : List ℕ) {p q r : P} {s : Short} (x : Result (Unit {0}) Short) → whole ≡ a ++ b → IsErr x →
      Draws room took a p (Err s) q → Draws room took whole p x r
  draws_short b (Ok u) e i f = absurd (false≢true i)
  draws_short {a = a} b (Err s) e i f = record { ok = tt; err = omega (arith, f.err, ap length e, length-append a b) }

  pub draws_short_then :
      {whole a b : List ℕ} (c : List ℕ) {p q r t : P} {s : Short} (x : Result (Unit {0}) Short) → whole ≡ (a ++ b) ++ c → IsErr x →
      took p a q → Draws room took b q (Err s) r → Draws room took whole p x t
  draws_short_then c (Ok u) e i f g = absurd (false≢true i)
  draws_short_then {a = a} {b = b} c {p} {q} (Err s) e i f g =
      record { ok = tt; err = omega (arith, laws.used p q a f, g.err, ap length e, length-append a b, length-append (a ++ b) c) }
