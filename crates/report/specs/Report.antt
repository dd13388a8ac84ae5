-- What the report program writes of two tables.
use Rattle.std.specs.Prelude.{ℕ, ◌≡◌, List, ◌++◌, length, replicate}
use Rattle.tables.specs.Numbers.{over}
use Rattle.refine.specs.Verdicts.{Answer}
use Rattle.refine.specs.Checking.{Answers}
use Rattle.lines.specs.Report.{report_line}

-- What a check of the flow against the rule in a mode answers. "Its trace buffer has 16,384 bytes"; the workspaces are just long
-- enough; all three hold zeros before.
pub record Answered (rule flow : List ℕ) (mode : ℕ) (a : Answer) : Type 0 where
  pub trace : List ℕ
  pub answers : Answers rule flow mode (replicate 32768 0) (replicate 128 0) (replicate 16384 0) a trace

-- the line of what the check answers
pub record LineOf (rule flow : List ℕ) (mode : ℕ) (line : List ℕ) : Type 0 where
  pub answer : Answer
  pub answered : Answered rule flow mode answer
  pub is : line ≡ report_line mode answer

-- "The report program [..] writes two lines, mode 0 first."
pub record Report (rule flow text : List ℕ) : Type 0 where
  pub traces : List ℕ
  pub failures : List ℕ
  pub first : LineOf rule flow 0 traces
  pub second : LineOf rule flow 1 failures
  pub is : text ≡ traces ++ failures

-- A text stands at the front of a buffer, and the bytes after it stay; size is its length.
pub record Put (text old : List ℕ) (size : ℕ) (new : List ℕ) : Type 0 where
  pub size_is : size ≡ length text
  pub new_is : new ≡ over text old

-- both lines are put into the buffer
pub record ReportCall (rule flow old : List ℕ) (size : ℕ) (new : List ℕ) : Type 0 where
  pub text : List ℕ
  pub is : Report rule flow text
  pub put : Put text old size new

-- For an inner function only: one line is put into the buffer.
pub record LineCall (rule flow : List ℕ) (mode : ℕ) (old : List ℕ) (size : ℕ) (new : List ℕ) : Type 0 where
  pub line : List ℕ
  pub is : LineOf rule flow mode line
  pub put : Put line old size new
