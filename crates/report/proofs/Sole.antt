-- Two texts that the report may write of the same two tables are equal.
use Prim.Native.Nat.{ℕ}
use mathlib.Core.Path.{◌≡◌, sym, ap, ap₂, ◌∙◌}
use mathlib.Core.List.{List, ◌++◌}
use lib.ListN.{length}
use Rattle.tables.specs.Numbers.{over}
use Rattle.refine.proofs.Sole.{answers_one}
use Rattle.lines.specs.Report.{report_line}
use Rattle.report.specs.Report.{LineOf, Report, ReportCall}

line_unique : (r f : List ℕ) (mode : ℕ) (x y : List ℕ) → LineOf r f mode x → LineOf r f mode y → x ≡ y
line_unique r f mode x y a b =
    a.is ∙ ap (report_line mode) (answers_one r f mode _ _ _ a.answered.answers b.answered.answers).answer ∙ sym b.is

pub text_unique : (r f x y : List ℕ) → Report r f x → Report r f y → x ≡ y
text_unique r f x y a b =
    a.is
    ∙ ap₂ ◌++◌ (line_unique r f 0 _ _ a.first b.first) (line_unique r f 1 _ _ a.second b.second)
    ∙ sym b.is

pub report_unique :
    (r f old : List ℕ) (n m : ℕ) (x y : List ℕ) → ReportCall r f old n x → ReportCall r f old m y → (n ≡ m) × (x ≡ y)
report_unique r f old n m x y a b =
    let e = text_unique r f a.text b.text a.is b.is in (
      a.put.size_is ∙ ap length e ∙ sym b.put.size_is,
      a.put.new_is ∙ ap (λ (l : List ℕ). over l old) e ∙ sym b.put.new_is,
    )
