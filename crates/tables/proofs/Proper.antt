-- What the tests 2 and 4 to 7 leave of a table, said of its moves as a list: what a builder shows of the table that it writes.
use Rattle.std.specs.Prelude.{None}
use Prim.Native.Nat.{ℕ}
use mathlib.Core.Bool.{Bool, true, false, ◌&&◌}
use mathlib.Core.Path.{◌≡◌, refl, sym, subst}
use mathlib.Core.Logic.{◌↔◌}
use mathlib.Core.List.Memᴰ
use mathlib.Core.List.{List, Memᴰ}
use lib.ListN.{length}
use lib.Dec.{eqb}
use borrow.Author.Tests.{le-ltb, lt-leb, eqb-true}
use Rattle.csp.specs.Table.{Move, Table, move, Fits}
use Rattle.tables.specs.Order.{Ascending}
use Rattle.tables.specs.Bytes.{count, move_of, row, table_of}
use Rattle.tables.specs.Valid.{misnames, misnamed, circles, circling, refusal}
use Rattle.tables.proofs.Some.{some_false}
use Rattle.tables.proofs.Rows.{Stands, same_move, row-length, in_row, of_row}
use Rattle.tables.proofs.Order.{row_ascending, ascending_row}
use Rattle.tables.proofs.Tested.{Within, Sound, good}
use Rattle.tables.proofs.Named.{Named, each_named, no_circle}

pub record Proper (t : Table) : Type 0 where
  pub limits : Within t.n t.E (length t.moves)
  pub fits : Fits t
  pub ascending : Ascending t.moves
  pub no_circle : (p : ℕ) → Memᴰ (move p 0 p) t.moves → ⊥

-- the table whose moves are the first m of a row
abbrev pub row_table : ℕ → ℕ → ℕ → (ℕ → Move) → ℕ → Table
row_table n E s at m = record { n = n; E = E; start = s; moves = row at m }

module _ (n E s : ℕ) (at : ℕ → Move) (m : ℕ) where
  pub proper_row : Within n E m → Sound n E s at m → Proper (row_table n E s at m)
  proper_row w g = record {
    limits = subst (λ (k : ℕ). Within n E k) (sym (row-length at m)) w;
    fits = record {
      start_below = g.starts;
      from_below = λ {p} {e} {q} i. (one p e q i).from;
      to_below = λ {p} {e} {q} i. (one p e q i).to;
      event_upto = λ {p} {e} {q} i. (one p e q i).event;
    };
    ascending = row_ascending at m g.ascending;
    no_circle = λ p i. no_circle n E s at m g (move p 0 p) (of_row at m (move p 0 p) i) refl refl;
  }
    where
      one : (p e q : ℕ) → Memᴰ (move p e q) (row at m) → Named n E (move p e q)
      one p e q i = each_named n E s at m g (move p e q) (of_row at m (move p e q) i)

  pub row_within : Proper (row_table n E s at m) → Within n E m
  row_within g = subst (λ (k : ℕ). Within n E k) (row-length at m) g.limits

  pub row_sound : Proper (row_table n E s at m) → Sound n E s at m
  unfolding misnamed circling misnames circles
  row_sound g = record {
    starts = g.fits.start_below;
    named = some_false _ m (λ j l.
        let i = in_row at m j l in
        simp (lt-leb _ _ (g.fits.from_below i), le-ltb _ _ (g.fits.event_upto i), lt-leb _ _ (g.fits.to_below i)));
    ascending = ascending_row at m g.ascending;
    no_circle = some_false _ m (λ j l. still (at j) (in_row at m j l));
  }
    where
      pick : (a b : Bool) (v : Move) → eqb v.event 0 ≡ a → eqb v.from v.to ≡ b → Memᴰ v (row at m) → (a && b) ≡ false
      pick false b v x y i = refl
      pick true false v x y i = refl
      pick true true v x y i =
          let z : v.event ≡ 0 = eqb-true _ _ x in
          let q : v.from ≡ v.to = eqb-true _ _ y in
          let e : move v.from 0 v.from ≡ v = same_move refl (sym z) q in
          absurd (g.no_circle v.from (Memᴰ.cast e i))

      still : (v : Move) → Memᴰ v (row at m) → (eqb v.event 0 && eqb v.from v.to) ≡ false
      still v i = pick _ _ v refl refl i

-- A table that no test refuses is proper; above all it fits.
pub proper : (t : List ℕ) → refusal t ≡ None → Proper (table_of t)
proper t c = let g = good t c in proper_row _ _ _ _ _ g.limits g.moves

pub fits : (t : List ℕ) → refusal t ≡ None → Fits (table_of t)
fits t c = (proper t c).fits

-- p goes by e to q in a table exactly if one of its moves says so
pub goes_iff : (t : List ℕ) (p e q : ℕ) → Memᴰ (move p e q) (table_of t).moves ↔ Stands (move_of t) (count t) (move p e q)
goes_iff t p e q =
    (of_row (move_of t) (count t) (move p e q), λ s. Memᴰ.cast (sym s.is) (in_row (move_of t) (count t) s.number s.below))
