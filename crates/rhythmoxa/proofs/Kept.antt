-- No answer is lost: each can be read back from its eight numbers.
use Prim.Native.Nat.{ℕ, zero, suc}
use mathlib.Core.Path.{◌≡◌, refl, ap, sym, subst, ◌∙◌}
use mathlib.Core.List.{List}
use lib.ListN.{get_or}
use Rattle.std.specs.Prelude.{Result, Ok, Err}
use Rattle.tables.specs.declared.answer.Refusal.{Refusal}
use Rattle.tables.specs.declared.answer.Refusal.TheVariants.{Rule, Flow, Call}
use Rattle.tables.specs.declared.answer.Header.{Header}
use Rattle.tables.specs.Answers.{head}
use Rattle.refine.specs.declared.verdict.Verdict.{Verdict}
use Rattle.refine.specs.declared.verdict.Verdict.TheVariants as verdict
use Rattle.rhythmoxa.specs.Layout.{refused_numbers, read_numbers, built_numbers, part_numbers, verdict_numbers}
use Rattle.rhythmoxa.specs.Calls.{Told}

abbrev refusal_by : ℕ → ℕ → Refusal
refusal_by zero k = Call k
refusal_by (suc zero) k = Rule k
refusal_by (suc (suc w)) k = Flow k

abbrev refusal_from : List ℕ → Refusal
refusal_from l = refusal_by (get_or l 1 0) (get_or l 2 0)

abbrev read_by : ℕ → List ℕ → Result Header Refusal
read_by zero l = Err (refusal_from l)
read_by (suc kind) l = Ok (head (get_or l 3 0) (get_or l 4 0) (get_or l 5 0) (get_or l 6 0))

abbrev built_by : ℕ → List ℕ → Result ℕ Refusal
built_by zero l = Err (refusal_from l)
built_by (suc kind) l = Ok (get_or l 3 0)

abbrev verdict_by : ℕ → List ℕ → Verdict
verdict_by zero l = verdict.Refused (refusal_from l)
verdict_by (suc zero) l = verdict.Passes 0 0
verdict_by (suc (suc zero)) l = verdict.Passes (get_or l 3 0) (get_or l 4 0)
verdict_by (suc (suc (suc zero))) l = verdict.TraceFault (get_or l 3 0)
verdict_by (suc (suc (suc (suc kind)))) l = verdict.RefusalFault (get_or l 3 0) (get_or l 4 0)

refusal_back : (w : Refusal) → refusal_from (refused_numbers w) ≡ w
refusal_back (Call k) = refl
refusal_back (Rule k) = refl
refusal_back (Flow k) = refl

read_back : (a : Result Header Refusal) → read_by (get_or (read_numbers a) 0 0) (read_numbers a) ≡ a
read_back (Ok h) = refl
read_back (Err w) = rw (refusal_back w)

built_back : (a : Result ℕ Refusal) → built_by (get_or (built_numbers a) 0 0) (built_numbers a) ≡ a
built_back (Ok size) = refl
built_back (Err w) = rw (refusal_back w)

verdict_back : (a : Verdict) → verdict_by (get_or (verdict_numbers a) 0 0) (verdict_numbers a) ≡ a
verdict_back (verdict.Passes n p) = refl
verdict_back (verdict.TraceFault l) = refl
verdict_back (verdict.RefusalFault l o) = refl
verdict_back (verdict.Refused w) = ap verdict.Refused (refusal_back w)

-- the numbers of one answer are those of no other
abbrev pub Kept : {A : Type 0} → (A → List ℕ) → Type 0
Kept {A} numbers_of = (a b : A) → numbers_of a ≡ numbers_of b → a ≡ b

pub read_kept : Kept read_numbers
read_kept a b h = sym (read_back a) ∙ ap (λ (l : List ℕ). read_by (get_or l 0 0) l) h ∙ read_back b

pub built_kept : Kept built_numbers
built_kept a b h = sym (built_back a) ∙ ap (λ (l : List ℕ). built_by (get_or l 0 0) l) h ∙ built_back b

pub verdict_kept : Kept verdict_numbers
verdict_kept a b h = sym (verdict_back a) ∙ ap (λ (l : List ℕ). verdict_by (get_or l 0 0) l) h ∙ verdict_back b

pub part_kept : Kept part_numbers
part_kept p q h =
    let o : p.offset ≡ q.offset = cc in
    let z : p.size ≡ q.size = cc in
    λ i. record { offset = o i; size = z i }

-- A promise whose numbers are those of an answer is the call's own promise of that answer.
pub known :
    {A : Type 0} (numbers_of : A → List ℕ) (Promised : A → Type 0) (a : A) → Kept numbers_of →
    Told numbers_of Promised (numbers_of a) → Promised a
known numbers_of Promised a kept t = subst Promised (kept t.answer a (sym t.told)) t.call
