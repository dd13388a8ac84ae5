-- The lines in the buffer.
use Prim.Native.Nat.{ℕ, ◌+◌, ◌-◌, ◌≤◌}
use mathlib.Core.Path.{◌≡◌, refl, sym, ap, ap₂, ◌∙◌}
use mathlib.Core.List.{List, ◌++◌, append_assoc}
use native.Mathlib.Omega.{arith}
use Rattle.std.specs.Prelude.{Result, Ok}
use Rattle.std.specs.Result.{result_unwrap_or}
use lib.ListN.{length, replicate, take, drop, length-append, length-drop}
use lib.Seq.{take_at, drop_at, drop-drop}
use borrow.Rule.Slice.PartMut.{put_mid}
use Rattle.tables.specs.Numbers.{over}
use Rattle.tables.proofs.Parts.{tail_lent, tail_back}
use Rattle.refine.specs.declared.verdict.Verdict.{Verdict}
use Rattle.refine.specs.Verdicts.{answer_of}
use Rattle.refine.specs.Checking.{CheckCall}
use Rattle.lines.specs.Report.{report_line}
use Rattle.lines.specs.Maker.{Made, makes}
use Rattle.lines.specs.declared.answer.Short.{Short}
use Rattle.lines.proofs.Making.{line_written}
use Rattle.report.specs.Report.{Answered, Put, LineCall, ReportCall}
use Rattle.report.proofs.Few.{line_few}

-- one line: a check, then the line maker
module _ (r f : List ℕ) (mode : ℕ) (v : Verdict) (left16 left64 t old : List ℕ)
    (C : CheckCall r f mode (replicate 32768 0) (replicate 128 0) (replicate 16384 0) v left16 left64 t) (room : 50000 ≤ length old) where
  line_answered : Answered r f mode (answer_of v t)
  line_answered = record { trace = t; answers = C.answers }

  fits : makes v t mode old ≡ record {
    answer = Ok (length (report_line mode (answer_of v t)));
    out = over (report_line mode (answer_of v t)) old;
  }
  fits = line_written v t mode old C.whole (omega (arith, line_few line_answered))

  -- the line maker never answers that there is no room
  pub line_put :
      (m : Result ℕ Short) (new : List ℕ) → m ≡ (makes v t mode old).answer → new ≡ (makes v t mode old).out →
      LineCall r f mode old (result_unwrap_or m 0) new
  line_put m new e g = record {
    line = report_line mode (answer_of v t);
    is = record { answer = answer_of v t; answered = line_answered; is = refl };
    put = record {
      size_is = ap (λ (x : Result ℕ Short). result_unwrap_or x 0) (e ∙ ap (λ (x : Made). x.answer) fits);
      new_is = g ∙ ap (λ (x : Made). x.out) fits;
    };
  }

-- the room that a line takes
pub line_small : {r f : List ℕ} {mode : ℕ} {old new : List ℕ} {n : ℕ} → LineCall r f mode old n new → n ≤ 50000
line_small c = omega (arith, c.put.size_is, ap length c.is.is, line_few c.is.answered)

pub rest_room : (n : ℕ) (mid : List ℕ) → n ≤ 50000 → 100000 ≤ length mid → 50000 ≤ length (take (length mid - n) (drop n mid))
rest_room n mid h k = omega (arith, ap length (tail_lent n mid), length-drop n mid)

-- a text, then another after it
put_then :
    (x y old mid end new : List ℕ) (n m : ℕ) → Put x old n mid → Put y (take (length mid - n) (drop n mid)) m end →
    new ≡ put_mid n (length mid - n) mid end → Put (x ++ y) old (n + m) new
put_then x y old mid end new n m a b e = record { size_is = omega (arith, a.size_is, b.size_is, length-append x y); new_is = whole }
  where
    size : length x ≡ n
    size = sym a.size_is

    front : take n mid ≡ x
    front = ap (take n) a.new_is ∙ take_at x (drop (length x) old) n size

    rest : take (length mid - n) (drop n mid) ≡ drop (length x) old
    rest = tail_lent n mid ∙ ap (drop n) a.new_is ∙ drop_at x (drop (length x) old) n size

    past : drop (length y) (drop (length x) old) ≡ drop (length (x ++ y)) old
    past = drop-drop (length y) (length x) old ∙ ap (λ (k : ℕ). drop k old) (sym (length-append x y))

    after : end ≡ y ++ drop (length (x ++ y)) old
    after = b.new_is ∙ ap (λ (l : List ℕ). y ++ drop (length y) l) rest ∙ ap (λ (l : List ℕ). y ++ l) past

    whole : new ≡ over (x ++ y) old
    whole =
        e
        ∙ tail_back n mid end
        ∙ ap₂ ◌++◌ front after
        ∙ sym (append_assoc x y (drop (length (x ++ y)) old))

-- both lines
pub lines_put :
    (r f old mid end new : List ℕ) (n m : ℕ) → LineCall r f 0 old n mid →
    LineCall r f 1 (take (length mid - n) (drop n mid)) m end → new ≡ put_mid n (length mid - n) mid end →
    ReportCall r f old (n + m) new
lines_put r f old mid end new n m a b e = record {
  text = a.line ++ b.line;
  is = record { traces = a.line; failures = b.line; first = a.is; second = b.is; is = refl };
  put = put_then a.line b.line old mid end new n m a.put b.put e;
}

pub report_small : {r f old new : List ℕ} {n : ℕ} → ReportCall r f old n new → n ≤ 100000
report_small c =
    omega (
      arith,
      c.put.size_is,
      ap length c.is.is,
      length-append c.is.traces c.is.failures,
      ap length c.is.first.is,
      line_few c.is.first.answered,
      ap length c.is.second.is,
      line_few c.is.second.answered,
    )
