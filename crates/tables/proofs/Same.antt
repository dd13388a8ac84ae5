-- Two good tables with equal n, E and start and the same set of moves are the same bytes.
use Rattle.std.specs.Prelude.{None}
use Prim.Native.Nat.{ℕ}
use mathlib.Core.Path.{◌≡◌, sym, ap, ◌∙◌}
use mathlib.Core.List.{List, Memᴰ}
use Rattle.csp.specs.Table.{Move, Table}
use Rattle.tables.specs.Numbers.{AllBytes}
use Rattle.tables.specs.Bytes.{table_of, encoded}
use Rattle.tables.specs.Valid.{refusal}
use Rattle.tables.proofs.Order.{ascending_unique}
use Rattle.tables.proofs.Tested.{good}
use Rattle.tables.proofs.Proper.{Proper, proper}
use Rattle.tables.proofs.Encoded.{encoded_again}

-- two tables of one n, E and start, with the same set of moves
pub record Alike (a b : Table) : Type 0 where
  pub n : a.n ≡ b.n
  pub E : a.E ≡ b.E
  pub start : a.start ≡ b.start
  pub there : (v : Move) → Memᴰ v a.moves → Memᴰ v b.moves
  pub back : (v : Move) → Memᴰ v b.moves → Memᴰ v a.moves

pub alike_same : (a b : Table) → Proper a → Proper b → Alike a b → a ≡ b
alike_same a b p q k i = record { n = k.n i; E = k.E i; start = k.start i; moves = moves i }
  where
    moves : a.moves ≡ b.moves
    moves = ascending_unique a.moves b.moves p.ascending q.ascending k.there k.back

-- What a builder writes is the one good table with these moves.
pub encoded_same : (a : Table) (u : List ℕ) → Proper a → AllBytes u → refusal u ≡ None → Alike a (table_of u) → encoded a ≡ u
encoded_same a u p bu cu k = ap encoded (alike_same a (table_of u) p (proper u cu) k) ∙ encoded_again u (good u cu) bu

pub tables_same :
    (t u : List ℕ) → AllBytes t → AllBytes u → refusal t ≡ None → refusal u ≡ None → Alike (table_of t) (table_of u) → t ≡ u
tables_same t u bt bu ct cu k =
    sym (encoded_again t (good t ct) bt) ∙ encoded_same (table_of t) u (proper t ct) bu cu k
