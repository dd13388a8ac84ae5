-- What a row of tests that is clear says.
use Rattle.std.specs.Prelude.{Option, None, Some}
use Prim.Native.Nat.{ℕ, ◌≤◌, ◌<◌, ◌+◌, ◌*◌}
use mathlib.Core.Bool.{Bool, true, false, not}
use mathlib.Core.Path.{◌≡◌, refl}
use mathlib.Core.List.{List}
use native.Mathlib.Omega.{arith}
use lib.ListN.{length}
use lib.Dec.{ltb, eqb}
use borrow.Author.Tests.{ltb-false, leb-false, eqb-true, not-false, le-ltb, lt-leb, le-leb, eq-eqb}
use Rattle.tables.specs.Numbers.{num}
use Rattle.tables.specs.Tests.{when}
use Rattle.csp.specs.Table.{Move}
use Rattle.tables.specs.Bytes.{states, events, start, count, move_of}
use Rattle.tables.proofs.Some.{or_false}
use Rattle.tables.specs.Valid.{few_bytes, outside, misframed, astray, misnamed, disordered, circling, later_tests, refusal}

pub record Framed (t : List ℕ) (m : ℕ) : Type 0 where
  pub offset : num t 8 ≡ 12
  pub last : num t 10 ≡ 0
  pub size : length t ≡ 12 + 6 * m

pub framed : (t : List ℕ) (m : ℕ) → misframed t m ≡ false → Framed t m
unfolding misframed
framed t m h =
    let a = or_false (not (eqb (num t 8) 12)) _ h in
    let b = or_false (not (eqb (num t 10) 0)) _ a.1 in
    record {
      offset = eqb-true _ _ (not-false _ a.0);
      last = eqb-true _ _ (not-false _ b.0);
      size = eqb-true _ _ (not-false _ b.1);
    }

pub record Within (n E m : ℕ) : Type 0 where
  pub some_state : 1 ≤ n
  pub states : n ≤ 1024
  pub events : E ≤ 63
  pub moves : m ≤ 4096

pub within : (n E m : ℕ) → outside n E m ≡ false → Within n E m
unfolding outside
within n E m h =
    let a = or_false (ltb n 1) _ h in
    let b = or_false (ltb 1024 n) _ a.1 in
    let d = or_false (ltb 63 E) _ b.1 in
    record {
      some_state = ltb-false _ _ a.0;
      states = ltb-false _ _ b.0;
      events = ltb-false _ _ d.0;
      moves = ltb-false _ _ d.1;
    }

pub when_clear : (b : Bool) (k : ℕ) (later : Option ℕ) → when b (Some k) later ≡ None → (b ≡ false) × (later ≡ None)
when_clear true k later e = absurd (let q : ◌≡◌ {A = ℕ} 0 1 = cc in omega arith)
when_clear false k later e = (refl, e)

-- what the tests 4 to 7 leave
pub record Sound (n E s : ℕ) (at : ℕ → Move) (m : ℕ) : Type 0 where
  pub starts : s < n
  pub named : misnamed n E at m ≡ false
  pub ascending : disordered at m ≡ false
  pub no_circle : circling at m ≡ false

pub sound : (n E s : ℕ) (at : ℕ → Move) (m : ℕ) → later_tests n E s at m ≡ None → Sound n E s at m
unfolding later_tests
sound n E s at m h =
    let z = when_clear (astray n s) 4 _ h in
    let a = when_clear (misnamed n E at m) 5 _ z.1 in
    let b = when_clear (disordered at m) 6 _ a.1 in
    let d = when_clear (circling at m) 7 _ b.1 in
    record { starts = leb-false _ _ z.0; named = a.0; ascending = b.0; no_circle = d.0 }

pub sound_clear : (n E s : ℕ) (at : ℕ → Move) (m : ℕ) → Sound n E s at m → later_tests n E s at m ≡ None
unfolding later_tests
sound_clear n E s at m g = simp (lt-leb _ _ g.starts, g.named, g.ascending, g.no_circle)

-- the first of 4 to 7 that applies
module _ (n E s : ℕ) (at : ℕ → Move) (m : ℕ) where
  pub later_4 : n ≤ s → Some 4 ≡ later_tests n E s at m
  unfolding later_tests
  later_4 h = simp (le-leb _ _ h)

  pub later_5 : s < n → misnamed n E at m ≡ true → Some 5 ≡ later_tests n E s at m
  unfolding later_tests
  later_5 h a = simp (lt-leb _ _ h, a)

  pub later_6 : s < n → misnamed n E at m ≡ false → disordered at m ≡ true → Some 6 ≡ later_tests n E s at m
  unfolding later_tests
  later_6 h a b = simp (lt-leb _ _ h, a, b)

  pub later_7 : s < n → misnamed n E at m ≡ false → disordered at m ≡ false → circling at m ≡ true → Some 7 ≡ later_tests n E s at m
  unfolding later_tests
  later_7 h a b d = simp (lt-leb _ _ h, a, b, d)

-- a table that no test refuses
pub record Good (t : List ℕ) : Type 0 where
  pub long : 12 ≤ length t
  pub limits : Within (states t) (events t) (count t)
  pub frame : Framed t (count t)
  pub moves : Sound (states t) (events t) (start t) (move_of t) (count t)

pub good : (t : List ℕ) → refusal t ≡ None → Good t
unfolding refusal
good t h =
    let a = when_clear (few_bytes t) 1 _ h in
    let b = when_clear (outside (states t) (events t) (count t)) 2 _ a.1 in
    let d = when_clear (misframed t (count t)) 3 _ b.1 in
    record {
      long = ltb-false _ _ a.0;
      limits = within _ _ _ b.0;
      frame = framed t _ d.0;
      moves = sound _ _ _ _ _ d.1;
    }

pub within_clear : (n E m : ℕ) → Within n E m → outside n E m ≡ false
unfolding outside
within_clear n E m w = simp (le-ltb _ _ w.some_state, le-ltb _ _ w.states, le-ltb _ _ w.events, le-ltb _ _ w.moves)

pub framed_clear : (t : List ℕ) (m : ℕ) → Framed t m → misframed t m ≡ false
unfolding misframed
framed_clear t m f = simp (eq-eqb _ _ f.offset, eq-eqb _ _ f.last, eq-eqb _ _ f.size)

pub good_clear : (t : List ℕ) → Good t → refusal t ≡ None
unfolding refusal
good_clear t g =
    simp (
      le-ltb _ _ g.long,
      within_clear _ _ _ g.limits,
      framed_clear t _ g.frame,
      sound_clear _ _ _ _ _ g.moves,
    )
