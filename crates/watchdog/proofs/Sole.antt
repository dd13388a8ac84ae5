-- Two outcomes that a call allows are equal.
use Prim.Native.Nat.{ℕ}
use mathlib.Core.Path.{◌≡◌, refl, sym, ◌∙◌, ap, subst}
use mathlib.Core.List.{List}
use native.Mathlib.Omega.{arith}
use Rattle.csp.specs.Table.{Table}
use Rattle.csp.specs.Watchdog.{Watches}
use Rattle.csp.proofs.Unique.{form_unique}
use Rattle.tables.specs.Bytes.{table_of}
use Rattle.tables.specs.Answers.{Says, refused, rule, built_says}
use Rattle.tables.specs.declared.answer.Refusal.{Refusal}
use Rattle.std.proofs.Common.{Result}
use Rattle.tables.proofs.Same.{Alike, tables_same}
use Rattle.tables.proofs.Unique.{built_one}
use Rattle.watchdog.specs.Asking.{Made, Unless, refuses, passes, Puts, no_room, put, Writes, Builds, no_table, table, WatchdogCall}

-- what is said and what is left in the buffer
pub record Same (s : Says) (x : List ℕ) (s' : Says) (x' : List ℕ) : Type 0 where
  pub says : s ≡ s'
  pub left : x ≡ x'

-- a rule has one watchdog
alike : {asked : Table} {nodes : List ℕ} {a b : Table} → Watches asked nodes a → Watches asked nodes b → Alike a b
alike v w = record {
  n = v.n_is ∙ sym w.n_is;
  E = v.E_is ∙ sym w.E_is;
  start = v.start_is ∙ sym w.start_is;
  there = λ m h. w.whole (v.sound h);
  back = λ m h. v.whole (w.sound h);
}

pub made_one : (asked : Table) (t u : List ℕ) → Made asked t → Made asked u → t ≡ u
made_one asked t u a b =
    tables_same t u a.bytes b.bytes a.good b.good
    (alike
    a.watches
    (subst
    (λ (l : List ℕ). Watches asked l (table_of u))
    (form_unique asked b.nodes a.nodes b.normal a.normal)
    b.watches))

-- what allows one outcome only
abbrev One : (Says → List ℕ → Type 0) → Type 0
One R = (s s' : Says) (x x' : List ℕ) → R s x → R s' x' → Same s x s' x'

-- a row of tests does, if its rest does
unless_one : {P : Type 0} {no : Says} {Rest : Says → List ℕ → Type 0} {old : List ℕ} → One Rest → One (Unless P no Rest old)
unless_one rest s s' x x' (refuses p) (refuses q) = record { says = refl; left = refl }
unless_one rest s s' x x' (refuses p) (passes n r) = absurd (n p)
unless_one rest s s' x x' (passes n r) (refuses p) = absurd (n p)
unless_one rest s s' x x' (passes n r) (passes m q) = rest s s' x x' r q

puts_one : {t old : List ℕ} → One (Puts t old)
puts_one s s' x x' (no_room h) (no_room g) = record { says = refl; left = refl }
puts_one s s' x x' (no_room h) (put g) = absurd (omega arith)
puts_one s s' x x' (put h) (no_room g) = absurd (omega arith)
puts_one s s' x x' (put h) (put g) = record { says = refl; left = refl }

writes_one : {asked : Table} {old : List ℕ} → One (Writes asked old)
writes_one {asked} {old} s s' x x' a b =
    puts_one s s' x x'
    a.puts
    (subst (λ (t : List ℕ). Puts t old s' x') (made_one asked b.table a.table b.made a.made) b.puts)

builds_one : {asked work16 work64 old : List ℕ} → One (Builds asked work16 work64 old)
builds_one s s' x x' (no_table {k = k} h) (no_table {k = j} g) =
    let e : k ≡ j = cc in
    record { says = ap (λ (n : ℕ). refused rule n) e; left = refl }
builds_one s s' x x' (no_table h) (table g r) = absurd (cc)
builds_one s s' x x' (table h r) (no_table g) = absurd (cc)
builds_one s s' x x' (table h r) (table g q) = unless_one (unless_one (unless_one (unless_one writes_one))) s s' x x' r q

-- One answer, and one content of every lent buffer.
pub record SameCall (a b : Result ℕ Refusal) (x16 y16 x64 y64 x y : List ℕ) : Type 0 where
  pub answer : a ≡ b
  pub left16 : x16 ≡ y16
  pub left64 : x64 ≡ y64
  pub new : x ≡ y

pub watchdog_unique :
    (asked work16 work64 old : List ℕ) (a b : Result ℕ Refusal) (x16 y16 x64 y64 x y : List ℕ) →
    WatchdogCall asked work16 work64 old a x16 x64 x → WatchdogCall asked work16 work64 old b y16 y64 y →
    SameCall a b x16 y16 x64 y64 x y
watchdog_unique asked work16 work64 old a b x16 y16 x64 y64 x y p q =
    let s = builds_one (built_says a) (built_says b) x y p.builds q.builds in
    record {
      answer = built_one a b s.says;
      left16 = p.cleared16 ∙ sym q.cleared16;
      left64 = p.cleared64 ∙ sym q.cleared64;
      new = s.left;
    }
