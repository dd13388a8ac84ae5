-- What the reader does, case by case.
use Rattle.std.specs.Prelude.{None, Some, Ok, Err}
use Prim.Native.Nat.{ℕ, ◌<◌, ◌≤◌, ◌*◌, ◌/◌}
use mathlib.Core.Bool.{true, false}
use mathlib.Core.Path.{◌≡◌, sym, ap, ◌∙◌}
use mathlib.Core.List.{List, ◌++◌}
use native.Mathlib.Omega.{arith}
use lib.ListN.{length, drop, length-drop}
use lib.Dec.{ltb}
use borrow.Author.Tests.{lt-ltb, le-ltb}
use Rattle.tables.specs.Numbers.{numbers, over, AllBytes}
use Rattle.tables.specs.Bytes.{states, events, start, count}
use Rattle.tables.specs.Valid.{refusal}
use Rattle.tables.specs.Reader.{list_of, Given, reads, ReadCall}
use Rattle.tables.specs.declared.answer.Refusal.TheVariants.{Rule, Call}
use Rattle.tables.specs.Answers.{refused, table, rule, call, head}
use Rattle.tables.proofs.Coded.{length-numbers}
use Rattle.tables.proofs.Tested.{Good, good}

pub half : (t : List ℕ) → Good t → length (drop 12 t) / 2 ≡ 3 * count t
half t g = omega (arith, length-drop 12 t, g.frame.size)

pub length_list : (t : List ℕ) → Good t → length (list_of t) ≡ 3 * count t
length_list t g = length-numbers (drop 12 t) ∙ half t g

module _ (t old : List ℕ) where
  pub read_refused : (k : ℕ) → refusal t ≡ Some k → reads t old ≡ record { says = refused rule k; list = old }
  unfolding reads
  read_refused k h = simp h

  pub read_short : refusal t ≡ None → length old < 3 * count t → reads t old ≡ record { says = refused call 18; list = old }
  unfolding reads
  read_short h k =
      let e : ltb (length old) (length (list_of t)) ≡ true = rw (length_list t (good t h)) (lt-ltb _ _ k) in
      simp (h, e)

  pub read_done : refusal t ≡ None → 3 * count t ≤ length old →
      reads t old ≡ record { says = table (states t) (events t) (start t) (count t); list = over (list_of t) old }
  unfolding reads
  read_done h k =
      let e : ltb (length old) (length (list_of t)) ≡ false = rw (length_list t (good t h)) (le-ltb _ _ k) in
      simp (h, e)

  -- the same as what a call promises
  module _ (b : AllBytes t) where
    pub call_refused : (k : ℕ) → refusal t ≡ Some k → ReadCall t old (Err (Rule k)) old
    call_refused k h =
        let w = read_refused k h in
        record { answer = ap (λ (x : Given). x.says) (sym w); list = ap (λ (x : Given). x.list) (sym w); bytes = b }

    pub call_short : refusal t ≡ None → length old < 3 * count t → ReadCall t old (Err (Call 18)) old
    call_short h k =
        let w = read_short h k in
        record { answer = ap (λ (x : Given). x.says) (sym w); list = ap (λ (x : Given). x.list) (sym w); bytes = b }

    pub call_done : (n E s m : ℕ) (new : List ℕ) → refusal t ≡ None → 3 * count t ≤ length old →
        n ≡ states t → E ≡ events t → s ≡ start t → m ≡ count t → new ≡ numbers (drop 12 t) ++ drop (length (drop 12 t) / 2) old →
        ReadCall t old (Ok (head n E s m)) new
    call_done n E s m new h k p q r z e =
        let w = read_done h k in
        record {
          answer = rw (p, q, r, z) (ap (λ (x : Given). x.says) (sym w));
          list = e ∙ ap (λ (i : ℕ). list_of t ++ drop i old) (sym (length-numbers (drop 12 t))) ∙ ap (λ (x : Given). x.list) (sym w);
          bytes = b;
        }
