-- What the writer does, case by case.
use Rattle.std.specs.Prelude.{None, Some, Ok, Err}
use Prim.Native.Nat.{ℕ, ◌<◌, ◌≤◌, ◌+◌, ◌*◌, ◌/◌, ◌%◌}
use mathlib.Core.Bool.{false}
use mathlib.Core.Path.{◌≡◌, sym, ap, ◌∙◌}
use mathlib.Core.List.{List, ◌++◌}
use native.Mathlib.Omega.{arith}
use lib.ListN.{length, take, drop}
use lib.Seq.{drop-drop, take_all}
use lib.Dec.{ltb}
use borrow.Author.Tests.{lt-ltb, le-ltb, eqb-true, not-false, eq-eqb}
use Rattle.csp.specs.Table.{Table}
use Rattle.tables.specs.Numbers.{bytes, over}
use Rattle.tables.specs.Moves.{listed}
use Rattle.tables.specs.Bytes.{row, threes, header, encoded}
use Rattle.tables.specs.Valid.{outside}
use Rattle.tables.specs.Writer.{not_in_threes, list_refusal, table_from, Written, writes, WriteCall}
use Rattle.tables.specs.declared.answer.Refusal.TheVariants.{Rule, Call}
use Rattle.tables.specs.Answers.{refused, wrote, rule, call}
use Rattle.tables.proofs.Coded.{length-bytes}
use Rattle.tables.proofs.Rows.{row-length, threes-row, length-threes}
use Rattle.tables.proofs.Tested.{when_clear, Within, within, within_clear, Sound, sound, sound_clear}

-- n, E, start and a list that no test refuses
pub record Sayable (n E s : ℕ) (l : List ℕ) : Type 0 where
  pub limits : Within n E (length l / 3)
  pub threes : length l % 3 ≡ 0
  pub moves : Sound n E s (listed l) (length l / 3)

pub sayable : (n E s : ℕ) (l : List ℕ) → list_refusal n E s l ≡ None → Sayable n E s l
unfolding list_refusal
sayable n E s l h =
    let a = when_clear (outside n E (length l / 3)) 2 _ h in
    let b = when_clear (not_in_threes l) 3 _ a.1 in
    record {
      limits = within _ _ _ a.0;
      threes = eqb-true _ _ (not-false _ b.0);
      moves = sound _ _ _ _ _ b.1;
    }

pub sayable_clear : (n E s : ℕ) (l : List ℕ) → Sayable n E s l → list_refusal n E s l ≡ None
unfolding list_refusal
sayable_clear n E s l g =
    simp (within_clear _ _ _ g.limits, eq-eqb _ _ g.threes, sound_clear _ _ _ _ _ g.moves)

pub length-encoded : (t : Table) → length (encoded t) ≡ 12 + 6 * length t.moves
unfolding encoded bytes
length-encoded t = let h = length-bytes (threes t.moves) in let k = length-threes t.moves in omega arith

module _ (n E s : ℕ) (l : List ℕ) (h : length l % 3 ≡ 0) where
  -- the numbers of a list in threes are those of its moves
  pub threes_back : threes (row (listed l) (length l / 3)) ≡ l
  threes_back = threes-row l (length l / 3) (omega arith) ∙ take_all (3 * (length l / 3)) l (omega arith)

  pub encoded_is : encoded (table_from n E s l) ≡ header n E s (length l / 3) ++ bytes l
  unfolding encoded
  encoded_is = rw (threes_back, row-length (listed l) (length l / 3))

  pub length-table : length (encoded (table_from n E s l)) ≡ 12 + 2 * length l
  length-table = length-encoded (table_from n E s l) ∙ (let e = row-length (listed l) (length l / 3) in omega arith)

  -- the header is put, then the moves after it
  pub table_put : (o o₁ : List ℕ) → o₁ ≡ header n E s (length l / 3) ++ drop 12 o →
      take 12 o₁ ++ (bytes l ++ drop (2 * length l) (drop 12 o₁)) ≡ over (encoded (table_from n E s l)) o
  unfolding bytes
  table_put o o₁ e =
      ap (λ (x : List ℕ). take 12 x ++ (bytes l ++ drop (2 * length l) (drop 12 x))) e
      ∙ ap (λ (x : List ℕ). header n E s (length l / 3) ++ bytes l ++ x) (drop-drop (2 * length l) 12 o ∙ ap (λ (k : ℕ). drop k o) (sym length-table))
      ∙ ap (λ (x : List ℕ). x ++ drop (length (encoded (table_from n E s l))) o) (sym encoded_is)

module _ (n E s : ℕ) (l old : List ℕ) where
  pub write_refused : (k : ℕ) → list_refusal n E s l ≡ Some k → writes n E s l old ≡ record { says = refused rule k; out = old }
  unfolding writes
  write_refused k h = simp h

  pub write_short : list_refusal n E s l ≡ None → length old < 12 + 2 * length l →
      writes n E s l old ≡ record { says = refused call 18; out = old }
  unfolding writes
  write_short h k = simp (h, length-table n E s l (sayable n E s l h).threes, lt-ltb _ _ k)

  pub write_done : list_refusal n E s l ≡ None → 12 + 2 * length l ≤ length old →
      writes n E s l old ≡ record { says = wrote (12 + 2 * length l); out = over (encoded (table_from n E s l)) old }
  unfolding writes
  write_done h k =
      let z = length-table n E s l (sayable n E s l h).threes in
      let e : ltb (length old) (length (encoded (table_from n E s l))) ≡ false = rw z (le-ltb _ _ k) in
      simp (h, e) (ap (λ (x : ℕ). record { says = wrote x; out = over (encoded (table_from n E s l)) old }) z)

  -- the same as what a call promises
  pub call_refused : (k : ℕ) → list_refusal n E s l ≡ Some k → WriteCall n E s l old (Err (Rule k)) old
  call_refused k h = let w = write_refused k h in record { answer = ap (λ (x : Written). x.says) (sym w); buffer = ap (λ (x : Written). x.out) (sym w) }

  pub call_short : list_refusal n E s l ≡ None → length old < 12 + 2 * length l → WriteCall n E s l old (Err (Call 18)) old
  call_short h k = let w = write_short h k in record { answer = ap (λ (x : Written). x.says) (sym w); buffer = ap (λ (x : Written). x.out) (sym w) }

  pub call_done : (new : List ℕ) → list_refusal n E s l ≡ None → 12 + 2 * length l ≤ length old →
      new ≡ over (encoded (table_from n E s l)) old → WriteCall n E s l old (Ok (12 + 2 * length l)) new
  call_done new h k e =
      let w = write_done h k in
      record { answer = ap (λ (x : Written). x.says) (sym w); buffer = e ∙ ap (λ (x : Written). x.out) (sym w) }
