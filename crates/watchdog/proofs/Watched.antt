-- The moves that are read off a rule's form are those of its watchdog, and stand in order.
use Prim.Native.Nat.{ℕ, zero, suc, ◌+◌, ◌*◌, ◌-◌, ◌<◌, ◌≤◌}
use mathlib.Core.Path.{◌≡◌, refl, sym, ◌∙◌, ap, subst}
use mathlib.Core.Logic.{◌⊎◌, inl, inr}
use mathlib.Core.List.Memᴰ
use mathlib.Core.List.{List, [], ◌∷◌, ◌++◌, append_assoc, append-nil, Memᴰ}
use native.Mathlib.Omega.{arith}
use native.Mathlib.Decide.{dec_lt}
use lib.ListN.{length, get_or}
use borrow.Author.Tests.{eq-eqb, ne_eqb}
use Rattle.csp.specs.Table.{Move, Table, move, Fits}
use Rattle.csp.specs.Numbered.{At}
use Rattle.csp.specs.Watchdog.{WatchMove, goes, falls, cries, Watches}
use Rattle.csp.proofs.Places.{at_below}
use Rattle.csp.proofs.Forms.{named}
use Rattle.tables.specs.Order.{Before, by_from, by_event, Ascending, none}
use Rattle.tables.specs.Bytes.{row}
use Rattle.tables.proofs.Rows.{in_row, of_row, same_move}
use Rattle.tables.proofs.Order.{ascending_snoc}
use Rattle.tables.proofs.Proper.{Proper}
use Rattle.normal.specs.declared.form.Form.{Form}
use Rattle.normal.specs.Form as form
use Rattle.normal.specs.Made.{Cell, leads, nowhere, FormOf}
use Rattle.normal.proofs.Cells.{cell_one, cell-none}
use Rattle.normal.proofs.Said.{node_at}
use Rattle.watchdog.specs.Rows.{target, node_move, node_moves, watch_moves, watch_table}
use Rattle.watchdog.proofs.Splicing.{watch_count, rows_few}

-- what stands among the nodes' moves
record AmongNodes (next : List ℕ) (k E m : ℕ) (v : Move) : Type 0 where
  i : ℕ
  d : ℕ
  node : i < m
  event : d < E
  is : node_move next k i d ≡ v

module _ (next : List ℕ) (k E : ℕ) where
  of_nodes : (m : ℕ) (v : Move) → Memᴰ v (node_moves next k E m) → AmongNodes next k E m v
  unfolding node_moves
  of_nodes zero v h = absurd (Memᴰ.not-nil h)
  of_nodes (suc m) v h = go (of_nodes m v) (Memᴰ.append_cases (node_moves next k E m) h)
    where
      go :
          (Memᴰ v (node_moves next k E m) → AmongNodes next k E m v) →
          Memᴰ v (node_moves next k E m) ⊎ Memᴰ v (row (node_move next k m) E) → AmongNodes next k E (suc m) v
      go f (inl p) = let a = f p in record { i = a.i; d = a.d; node = omega (arith, a.node); event = a.event; is = a.is }
      go f (inr p) =
          let s = of_row (node_move next k m) E v p in
          record { i = m; d = s.number; node = omega arith; event = s.below; is = s.is }

  in_nodes : (m i d : ℕ) → i < m → d < E → Memᴰ (node_move next k i d) (node_moves next k E m)
  unfolding node_moves
  in_nodes zero i d h l = absurd (omega arith)
  in_nodes (suc m) i d h l = go (in_nodes m i d) (dec_lt i m)
    where
      go :
          (i < m → d < E → Memᴰ (node_move next k i d) (node_moves next k E m)) → Dec (i < m) →
          Memᴰ (node_move next k i d) (node_moves next k E m ++ row (node_move next k m) E)
      go f (yes b) = Memᴰ.append_left (row (node_move next k m) E) (f b l)
      go f (no b) =
          let e : i ≡ m = omega arith in
          Memᴰ.append_right (node_moves next k E m)
          (subst (λ (x : ℕ). Memᴰ (node_move next k x d) (row (node_move next k m) E)) (sym e) (in_row (node_move next k m) E d l))

  -- they ascend
  row_rises :
      (l : List Move) (i m : ℕ) → Ascending l → ((v : Move) → Memᴰ v l → v.from < i) → Ascending (l ++ row (node_move next k i) m)
  unfolding row
  row_rises l i zero a b = rw append-nil a
  row_rises l i (suc m) a b =
      subst
      Ascending
      (append_assoc l (row (node_move next k i) m) (node_move next k i m ∷ []))
      (ascending_snoc (l ++ row (node_move next k i) m) (node_move next k i m) (row_rises l i m a b) (λ x h. before x (Memᴰ.append_cases l h)))
    where
      before : (x : Move) → Memᴰ x l ⊎ Memᴰ x (row (node_move next k i) m) → Before x (node_move next k i m)
      before x (inl h) = by_from (b x h)
      before x (inr h) =
          let s = of_row (node_move next k i) m x h in
          subst (λ (v : Move). Before v (node_move next k i m)) s.is (earlier s.number s.below)
        where
          earlier : (d : ℕ) → d < m → Before (node_move next k i d) (node_move next k i m)
          earlier d l = let h : d + 1 < m + 1 = omega arith in by_event refl h

  nodes_rise : (m : ℕ) → Ascending (node_moves next k E m)
  unfolding node_moves
  nodes_rise zero = none
  nodes_rise (suc m) =
      row_rises (node_moves next k E m) m E (nodes_rise m)
      (λ v h. let a = of_nodes m v h in omega (arith, a.node, ap (λ (x : Move). x.from) a.is))

  watch_rises : Ascending (watch_moves next k E)
  watch_rises =
      ascending_snoc (node_moves next k E k) (move k (E + 1) k) (nodes_rise k)
      (λ v h. let a = of_nodes k v h in let b : v.from < k = omega (arith, a.node, ap (λ (x : Move). x.from) a.is) in by_from b)

-- a target
target_none : (v k : ℕ) → v ≡ form.none → target v k ≡ k
target_none v k e = simp (eq-eqb v 255 e)

target-some : (v k : ℕ) → v < 255 → target v k ≡ v
target-some v k h = simp (ne_eqb v 255 (λ e. omega arith))

module _ (rule : Table) (fits : Fits rule) (nodes : List ℕ) (f : Form) (w : FormOf rule nodes f) (spare : f.events < 63) where
  -- what a form has for a node and an event is the watchdog's move
  cell-move :
      {i e v : ℕ} → i < f.count → 0 < e → e ≤ f.events → Cell rule nodes i e v → WatchMove rule nodes i e (target v f.count)
  cell-move {i} {e} {v} b s u (leads p n q) =
      subst (λ (j : ℕ). WatchMove rule nodes i e j) (sym (target-some v f.count (omega (arith, at_below q, w.upto)))) (goes p n q)
  cell-move {i} {e} {v} b s u (nowhere k) =
      subst
      (λ (j : ℕ). WatchMove rule nodes i e j)
      (sym (target_none 255 f.count refl ∙ w.count_is))
      (falls at s (omega (arith, w.events_is)) (λ y st. let c = named rule fits (form.node f i) e y st in k (form.node f i) c.0 at c.1))
    where
      at : At nodes i (form.node f i)
      at = node_at rule fits nodes f w i b

  cell_at : (i d : ℕ) → i < f.count → d < f.events → Cell rule nodes i (d + 1) (get_or f.next (64 * i + (d + 1)) 0)
  cell_at i d b l = w.next_is i (d + 1) (omega (arith, w.count_is, w.upto)) (omega arith)

  sound : {i e j : ℕ} → Memᴰ (move i e j) (watch_table f).moves → WatchMove rule nodes i e j
  sound {i} {e} {j} h = go (Memᴰ.append_cases (node_moves f.next f.count f.events f.count) h)
    where
      moved : {v : Move} → v ≡ move i e j → WatchMove rule nodes v.from v.event v.to → WatchMove rule nodes i e j
      moved q m = subst (λ (x : Move). WatchMove rule nodes x.from x.event x.to) q m

      last : WatchMove rule nodes f.count (f.events + 1) f.count
      last =
          subst
          (λ (x : ℕ). WatchMove rule nodes x (f.events + 1) x)
          (sym w.count_is)
          (subst (λ (x : ℕ). WatchMove rule nodes (length nodes) x (length nodes)) (omega (arith, w.events_is)) cries)

      go :
          Memᴰ (move i e j) (node_moves f.next f.count f.events f.count) ⊎
          Memᴰ (move i e j) (move f.count (f.events + 1) f.count ∷ []) → WatchMove rule nodes i e j
      go (inl p) =
          let a = of_nodes f.next f.count f.events f.count (move i e j) p in
          moved a.is (cell-move a.node (omega arith) (omega (arith, a.event)) (cell_at a.i a.d a.node a.event))
      go (inr p) = moved (sym (Memᴰ.eq_of_singleton p)) last

  node_stepped :
      (i e j : ℕ) → i < f.count → 0 < e → e ≤ f.events → target (get_or f.next (64 * i + (e - 1 + 1)) 0) f.count ≡ j →
      Memᴰ (move i e j) (watch_table f).moves
  node_stepped i e j b s u q =
      Memᴰ.append_left (move f.count (f.events + 1) f.count ∷ [])
      (Memᴰ.cast
      (same_move refl (omega arith) (sym q))
      (in_nodes f.next f.count f.events f.count i (e - 1) b (omega arith)))

  cell_of : (i e : ℕ) → i < f.count → 0 < e → e ≤ f.events → Cell rule nodes i e (get_or f.next (64 * i + (e - 1 + 1)) 0)
  cell_of i e b s u =
      let z : e - 1 + 1 ≡ e = omega arith in
      subst
      (λ (x : ℕ). Cell rule nodes i x (get_or f.next (64 * i + (e - 1 + 1)) 0))
      z
      (cell_at i (e - 1) b (omega arith))

  whole : {i e j : ℕ} → WatchMove rule nodes i e j → Memᴰ (move i e j) (watch_table f).moves
  whole {i} {e} {j} (goes at n at') =
      let st = n.holds.only n.one n.has_one in
      let b : i < f.count = omega (arith, at_below at, w.count_is) in
      let u : e ≤ f.events = omega (arith, fits.event_upto st.by, w.events_is) in
      node_stepped i e j b st.seen u
      (ap (λ (v : ℕ). target v f.count) (cell_one rule nodes w.normal.once (cell_of i e b st.seen u) (leads at n at'))
      ∙ target-some j f.count (omega (arith, at_below at', w.upto)))
  whole {i} {e} (falls at s u n) =
      let b : i < f.count = omega (arith, at_below at, w.count_is) in
      let v : e ≤ f.events = omega (arith, w.events_is) in
      node_stepped i e (length nodes) b s v
      (target_none _ f.count (cell-none rule nodes (cell_of i e b s v) at n) ∙ w.count_is)
  whole cries =
      Memᴰ.append_right (node_moves f.next f.count f.events f.count)
      (Memᴰ.head (same_move (sym w.count_is) (omega (arith, w.events_is)) (sym w.count_is)))

  pub table_watches : Watches rule nodes (watch_table f)
  table_watches = record {
    n_is = omega (arith, w.count_is);
    E_is = omega (arith, w.events_is);
    start_is = refl;
    sound = sound;
    whole = whole;
  }

  watch_below : {i e j : ℕ} → WatchMove rule nodes i e j → (i < f.count + 1) × (0 < e) × (e ≤ f.events + 1) × (j < f.count + 1)
  watch_below (goes at n at') =
      let st = n.holds.only n.one n.has_one in (
        omega (arith, at_below at, w.count_is),
        st.seen,
        omega (arith, fits.event_upto st.by, w.events_is),
        omega (arith, at_below at', w.count_is),
      )
  watch_below (falls at s u n) = (omega (arith, at_below at, w.count_is), s, omega (arith, w.events_is), omega (arith, w.count_is))
  watch_below cries = (omega (arith, w.count_is), omega arith, omega (arith, w.events_is), omega (arith, w.count_is))

  few : f.count * f.events ≤ 3968
  few = rows_few f.count f.events (omega (arith, w.count_is, w.upto)) spare

  pub table_proper : Proper (watch_table f)
  table_proper = record {
    limits = record { some_state = omega arith; states = omega (arith, w.count_is, w.upto); events = omega arith; moves = omega (arith, watch_count f.next f.count f.events, few) };
    fits = record {
      start_below = omega arith;
      from_below = λ {p} {e} {q} h. (watch_below (sound h)).0;
      to_below = λ {p} {e} {q} h. (watch_below (sound h)).3;
      event_upto = λ {p} {e} {q} h. (watch_below (sound h)).2;
    };
    ascending = watch_rises f.next f.count f.events;
    no_circle = λ p h. omega (arith, (watch_below (sound h)).1);
  }
