-- What the line maker does, case by case.
use Prim.Native.Nat.{ℕ, zero, suc, ◌≤◌, ◌<◌}
use mathlib.Core.Path.{◌≡◌, refl, ap, ◌∙◌}
use mathlib.Core.Bool.{false≢true}
use mathlib.Core.Logic.{◌⊎◌, inl, inr}
use native.Mathlib.Omega.{arith}
use native.Mathlib.Decide.{dec_lt}
use mathlib.Core.List.{List, [], ◌∷◌, ◌++◌, append_assoc}
use lib.ListN.{length}
use borrow.Author.Tests.{lt-ltb, le-ltb}
use Rattle.std.specs.Prelude.{Result, Ok, Err, IsErr}
use Rattle.tables.specs.Numbers.{over}
use Rattle.refine.specs.declared.verdict.Verdict.{Verdict}
use Rattle.refine.specs.Verdicts.{Answer, length_of, answer_of}
use Rattle.lines.specs.Text.{letters}
use Rattle.lines.specs.Fields.{word, bytes_of, line_feed, line_of}
use Rattle.lines.specs.Report.{mode_word, verdict_fields, report_line}
use Rattle.lines.specs.Maker.{Made, short, makes}
use Rattle.lines.specs.Pen.{led}
use Rattle.lines.specs.declared.answer.Short.{Short}
use Rattle.lines.proofs.Led.{apart-led}

mode_none : (m : ℕ) → m ≡ 0 → mode_word m ≡ word "traces"
mode_none m e = rw e

mode_some : (m : ℕ) → (m ≡ 0 → ⊥) → mode_word m ≡ word "failures"
mode_some zero n = absurd (n refl)
mode_some (suc m) n = refl

-- the mode's word
pub mode_traces : (mode : ℕ) → mode ≡ 0 → bytes_of (mode_word mode) ≡ letters "traces"
mode_traces mode e = ap bytes_of (mode_none mode e)

pub mode_failures : (mode : ℕ) → (mode ≡ 0 → ⊥) → bytes_of (mode_word mode) ≡ letters "failures"
mode_failures mode e = ap bytes_of (mode_some mode e)

-- the whole line: the mode's word, the fields after it, the line feed
pub line_head :
    (mode : ℕ) (a : Answer) → report_line mode a ≡ bytes_of (mode_word mode) ++ (led (verdict_fields a) ++ (line_feed ∷ []))
unfolding report_line line_of
line_head mode a =
    ap (λ (l : List ℕ). l ++ (line_feed ∷ [])) (apart-led (mode_word mode) (verdict_fields a))
    ∙ append_assoc (bytes_of (mode_word mode)) (led (verdict_fields a)) (line_feed ∷ [])

pub line_parts :
    (mode : ℕ) (a : Answer) → report_line mode a ≡ (bytes_of (mode_word mode) ++ led (verdict_fields a)) ++ (line_feed ∷ [])
unfolding report_line line_of
line_parts mode a = ap (λ (l : List ℕ). l ++ (line_feed ∷ [])) (apart-led (mode_word mode) (verdict_fields a))

-- there is one error
pub the_short : (x : Result ℕ Short) → IsErr x → x ≡ Err short
the_short (Ok n) e = absurd (false≢true e)
the_short (Err s) e = refl

pub the_count : {n m : ℕ} → n ≡ m → ◌≡◌ {A = Result ℕ Short} (Ok n) (Ok m)
the_count e = rw e

module _ (v : Verdict) (t : List ℕ) (mode : ℕ) (old : List ℕ) where
  pub trace_short : length t < length_of v → makes v t mode old ≡ record { answer = Err short; out = old }
  unfolding makes
  trace_short h = simp (lt-ltb _ _ h)

  pub buffer_short :
      length_of v ≤ length t → length old < length (report_line mode (answer_of v t)) →
      makes v t mode old ≡ record { answer = Err short; out = old }
  unfolding makes
  buffer_short h k = simp (le-ltb _ _ h, lt-ltb _ _ k)

  pub line_written :
      length_of v ≤ length t → length (report_line mode (answer_of v t)) ≤ length old →
      makes v t mode old ≡ record {
        answer = Ok (length (report_line mode (answer_of v t)));
        out = over (report_line mode (answer_of v t)) old;
      }
  unfolding makes
  line_written h k = simp (le-ltb _ _ h, le-ltb _ _ k)

  -- short exactly if the trace slice or the buffer is
  pub short_then :
      (makes v t mode old).answer ≡ Err short → (length t < length_of v) ⊎ (length old < length (report_line mode (answer_of v t)))
  short_then e = go (dec_lt (length t) (length_of v)) (dec_lt (length old) (length (report_line mode (answer_of v t))))
    where
      go :
          Dec (length t < length_of v) → Dec (length old < length (report_line mode (answer_of v t))) →
          (length t < length_of v) ⊎ (length old < length (report_line mode (answer_of v t)))
      go (yes h) d = inl h
      go (no h) (yes k) = inr k
      go (no h) (no k) =
          let w = ap (λ (x : Made). x.answer) (line_written (omega arith) (omega arith)) in
          absurd (let z : ◌≡◌ {A = ℕ} 0 1 = cc in omega arith)

  pub then_short :
      (length t < length_of v) ⊎ (length old < length (report_line mode (answer_of v t))) → (makes v t mode old).answer ≡ Err short
  then_short (inl h) = ap (λ (x : Made). x.answer) (trace_short h)
  then_short (inr k) = go (dec_lt (length t) (length_of v))
    where
      go : Dec (length t < length_of v) → (makes v t mode old).answer ≡ Err short
      go (yes h) = ap (λ (x : Made). x.answer) (trace_short h)
      go (no h) = ap (λ (x : Made). x.answer) (buffer_short (omega arith) k)
