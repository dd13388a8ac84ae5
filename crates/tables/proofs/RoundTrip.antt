-- The writer and the reader undo each other.
use Rattle.std.specs.Prelude.{Option, None, Some, Result, Ok}
use Prim.Native.Nat.{ℕ, ◌≤◌, ◌+◌, ◌*◌, ◌/◌, ◌%◌}
use mathlib.Core.Bool.{Bool, true, false}
use mathlib.Core.Path.{◌≡◌, refl, sym, ap, ◌∙◌, subst}
use mathlib.Core.List.{List}
use native.Mathlib.Omega.{arith}
use lib.ListN.{length, take, drop}
use lib.Seq.{take_at}
use lib.Dec.{ltb}
use borrow.Author.Tests.{ltb-false}
use Rattle.csp.specs.Table.{Table}
use Rattle.tables.specs.Numbers.{AllBytes, over}
use Rattle.tables.specs.Moves.{listed}
use Rattle.tables.specs.Bytes.{states, events, start, count, table_of, encoded}
use Rattle.tables.specs.Valid.{refusal}
use Rattle.tables.specs.Writer.{list_refusal, table_from, Written, written, writes, WriteCall}
use Rattle.tables.specs.Reader.{list_of, Given, given, reads, ReadCall}
use Rattle.tables.specs.Answers.{wrote, table, head}
use Rattle.tables.proofs.Rows.{row-length}
use Rattle.tables.proofs.Tested.{good}
use Rattle.tables.proofs.Writing.{Sayable, sayable, sayable_clear, length-table, threes_back, write_done}
use Rattle.tables.proofs.Reading.{length_list, read_done}
use Rattle.tables.proofs.Unique.{built_one, read_one}
use Rattle.tables.proofs.Proper.{Proper, proper_row, row_within, row_sound, proper}
use Rattle.tables.proofs.Encoded.{states_is, events_is, start_is, count_is, list_is, encoded_clear, list_moves, encoded_again}
use Rattle.tables.specs.declared.answer.Refusal.{Refusal}
use Rattle.tables.specs.declared.answer.Header.{Header}

-- what a writer that wrote says
pub record WroteIt (n E s : ℕ) (l out : List ℕ) (size : ℕ) : Type 0 where
  pub clear : list_refusal n E s l ≡ None
  pub room : 12 + 2 * length l ≤ length out
  pub is : size ≡ length (encoded (table_from n E s l))

wrote_cases : (x : Option ℕ) (b : Bool) (new old : List ℕ) (size : ℕ) → (written x b new old).says ≡ wrote size →
    (x ≡ None) × ((b ≡ false) × (size ≡ length new))
wrote_cases (Some k) b new old size e = absurd (let z : ◌≡◌ {A = ℕ} 0 1 = cc in omega arith)
wrote_cases None true new old size e = absurd (let z : ◌≡◌ {A = ℕ} 0 1 = cc in omega arith)
wrote_cases None false new old size e = (refl, (refl, cc))

pub wrote_says : (n E s : ℕ) (l out : List ℕ) (size : ℕ) → (writes n E s l out).says ≡ wrote size → WroteIt n E s l out size
unfolding writes
wrote_says n E s l out size e =
    let w = wrote_cases (list_refusal n E s l) (ltb (length out) (length (encoded (table_from n E s l)))) (encoded (table_from n E s l)) out size e in
    let r : length (encoded (table_from n E s l)) ≤ length out = ltb-false _ _ w.1.0 in
    record { clear = w.0; room = omega (arith, length-table n E s l (sayable n E s l w.0).threes); is = w.1.1 }

-- what a reader that gave says
pub record GaveIt (t old : List ℕ) (n E s m : ℕ) : Type 0 where
  pub clear : refusal t ≡ None
  pub room : 3 * count t ≤ length old
  pub states : n ≡ states t
  pub events : E ≡ events t
  pub start : s ≡ start t
  pub moves : m ≡ count t

gave_cases : (x : Option ℕ) (b : Bool) (t old : List ℕ) (n E s m : ℕ) → (given x b t old).says ≡ table n E s m →
    (x ≡ None) × ((b ≡ false) × (table (states t) (events t) (start t) (count t) ≡ table n E s m))
gave_cases (Some k) b t old n E s m e = absurd (let z : ◌≡◌ {A = ℕ} 0 1 = cc in omega arith)
gave_cases None true t old n E s m e = absurd (let z : ◌≡◌ {A = ℕ} 0 1 = cc in omega arith)
gave_cases None false t old n E s m e = (refl, (refl, e))

pub gave : (t old : List ℕ) {n E s m : ℕ} → (reads t old).says ≡ table n E s m → GaveIt t old n E s m
unfolding reads
gave t old {n} {E} {s} {m} e =
    let w = gave_cases (refusal t) (ltb (length old) (length (list_of t))) t old n E s m e in
    let h : table (states t) (events t) (start t) (count t) ≡ table n E s m = w.1.1 in
    let r : length (list_of t) ≤ length old = ltb-false _ _ w.1.0 in
    record {
      clear = w.0;
      room = omega (arith, length_list t (good t w.0));
      states = cc;
      events = cc;
      start = cc;
      moves = cc;
    }

module _ (n E s : ℕ) (l : List ℕ) (h : list_refusal n E s l ≡ None) where
  in_threes : length l % 3 ≡ 0
  in_threes = (sayable n E s l h).threes

  -- what is to be written is proper
  pub from_proper : Proper (table_from n E s l)
  from_proper = let g = sayable n E s l h in proper_row n E s (listed l) (length l / 3) g.limits g.moves

  -- What is written is read back: n, E, start, the count of moves and the moves.
  pub write_read : (old : List ℕ) → length l ≤ length old →
      reads (encoded (table_from n E s l)) old ≡ record { says = table n E s (length l / 3); list = over l old }
  write_read old k =
      let t : Table = table_from n E s l in
      let e : list_of (encoded t) ≡ l = list_is t ∙ threes_back n E s l in_threes in
      let m : count (encoded t) ≡ length l / 3 = count_is t ∙ row-length (listed l) (length l / 3) in
      read_done (encoded t) old (encoded_clear t from_proper) (omega (arith, m))
      ∙ rw (states_is t, events_is t, start_is t, m, e) refl

-- Of the calls, whatever buffer is written into: the bytes written are read back.
pub write_then_read :
    (n E s size : ℕ) (l out out' old new : List ℕ) (r : Result Header Refusal) →
    WriteCall n E s l out (Ok size) out' → ReadCall (take size out') old r new → length l ≤ length old →
    (r ≡ Ok (head n E s (length l / 3))) × (new ≡ over l old)
write_then_read n E s size l out out' old new r p q k =
    let w = wrote_says n E s l out size (sym p.answer) in
    let t : List ℕ = encoded (table_from n E s l) in
    let e : take size out' ≡ t =
    ap (take size) (p.buffer ∙ ap (λ (x : Written). x.out) (write_done n E s l out w.clear w.room))
    ∙ take_at t (drop (length t) out) size (sym w.is) in
    let g : reads (take size out') old ≡ record { says = table n E s (length l / 3); list = over l old } =
    ap (λ (x : List ℕ). reads x old) e ∙ write_read n E s l w.clear old k in
    (read_one r (Ok (head n E s (length l / 3))) (q.answer ∙ ap (λ (x : Given). x.says) g), q.list ∙ ap (λ (x : Given). x.list) g)

module _ (t : List ℕ) (c : refusal t ≡ None) where
  third : length (list_of t) / 3 ≡ count t
  third = omega (arith, length_list t (good t c))

  -- what is read is the table itself
  from_list : table_from (states t) (events t) (start t) (list_of t) ≡ table_of t
  from_list = rw (third, list_moves t (good t c)) refl

  list_sayable : Sayable (states t) (events t) (start t) (list_of t)
  list_sayable =
      let g = good t c in
      let p : Proper (table_from (states t) (events t) (start t) (list_of t)) = subst (λ (x : Table). Proper x) (sym from_list) (proper t c) in
      record {
        limits = row_within _ _ _ _ _ p;
        threes = omega (arith, length_list t g);
        moves = row_sound _ _ _ _ _ p;
      }

  -- What is read is written back, byte for byte.
  pub read_write : AllBytes t → (out : List ℕ) → length t ≤ length out →
      writes (states t) (events t) (start t) (list_of t) out ≡ record { says = wrote (length t); out = over t out }
  read_write b out k =
      let g = good t c in
      let n : 12 + 2 * length (list_of t) ≡ length t = omega (arith, length_list t g, g.frame.size) in
      let e : encoded (table_from (states t) (events t) (start t) (list_of t)) ≡ t = ap encoded from_list ∙ encoded_again t g b in
      write_done _ _ _ _ out (sayable_clear _ _ _ _ list_sayable) (omega arith)
      ∙ rw (e, n) refl

-- Of the calls, whatever list is read into: the numbers given back are written back, byte for byte.
pub read_then_write :
    (n E s m : ℕ) (t old new out out' : List ℕ) (r : Result ℕ Refusal) →
    ReadCall t old (Ok (head n E s m)) new → WriteCall n E s (take (3 * m) new) out r out' → length t ≤ length out →
    (r ≡ Ok (length t)) × (out' ≡ over t out)
read_then_write n E s m t old new out out' r p q k =
    let w = gave t old (sym p.answer) in
    let x : 3 * m ≡ length (list_of t) = omega (arith, w.moves, length_list t (good t w.clear)) in
    let e : take (3 * m) new ≡ list_of t =
    ap (take (3 * m)) (p.list ∙ ap (λ (x : Given). x.list) (read_done t old w.clear w.room))
    ∙ take_at (list_of t) (drop (length (list_of t)) old) (3 * m) (sym x) in
    let g : writes n E s (take (3 * m) new) out ≡ record { says = wrote (length t); out = over t out } =
    rw (e, w.states, w.events, w.start) (read_write t w.clear p.bytes out k) in
    (built_one r (Ok (length t)) (q.answer ∙ ap (λ (x : Written). x.says) g), q.buffer ∙ ap (λ (x : Written). x.out) g)
