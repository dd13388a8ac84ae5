-- What the line maker answers, and what it leaves in the buffer.
use Rattle.std.specs.Prelude.{ℕ, Bool, true, false, ◌||◌, List, length, ltb, Result, Ok, Err}
use Rattle.tables.specs.Numbers.{over}
use Rattle.refine.specs.declared.verdict.Verdict.{Verdict}
use Rattle.refine.specs.Verdicts.{length_of, answer_of}
use Rattle.lines.specs.Report.{report_line}
use Rattle.lines.specs.declared.answer.Short.{Short}

-- an answer, with what is then in the buffer
pub record Made : Type 0 where
  pub answer : Result ℕ Short
  pub out : List ℕ

-- why there is no line
abbrev pub short : Short
short = record {}

-- short, no byte changes; else the line stands at the front of the buffer, and the bytes after it stay
abbrev pub made : Bool → List ℕ → List ℕ → Made
made true line old = record { answer = Err short; out = old }
made false line old = record { answer = Ok (length line); out = over line old }

-- The line of a verdict with its trace in a mode: short exactly if the trace slice is shorter than the verdict's length or the
-- buffer is shorter than the line.
unfoldable pub makes : Verdict → List ℕ → ℕ → List ℕ → Made
makes v trace mode old =
    let line = report_line mode (answer_of v trace) in
    made (ltb (length trace) (length_of v) || ltb (length old) (length line)) line old
