use mathlib.Core.Path.{◌≡◌, ap, sym, ◌∙◌}
use Prim.Native.Nat.{◌≤◌, ◌<◌}
use native.Mathlib.Omega.{arith}
use lib.ListN.{length}
use borrow.Author.Rules.{rules}
use Rattle.refine.specs.Verdicts.{length_of, answer_of}
use Rattle.lines.specs.Report.{report_line}
use Rattle.lines.specs.Maker.{Made}
use Rattle.lines.proofs.Whole.{put_front}
use Rattle.lines.proofs.Making.{the_short, the_count, trace_short, buffer_short, line_written}
use Rattle.lines.proofs.line.Goals as goal

pub returns-then-trace-length : goal.returns-then-trace-length
returns-then-trace-length c = let a = c.args in
    let h : length a.trace.now < length_of a.verdict = rw c.length.ensures at c.if-trace-length.true in
    let w = sym (trace_short a.verdict a.trace.now a.mode a.out.now h) in
    record { answer = ap (λ (x : Made). x.answer) w; buffer = ap (λ (x : Made). x.out) w }

pub returns-in_err-draw : goal.returns-in_err-draw
returns-in_err-draw c = let a = c.args in
    let h : length_of a.verdict ≤ length a.trace.now = rw c.length.ensures at c.if-trace-length.false in
    let b = report_line a.mode (answer_of a.verdict a.trace.now) in
    let k : length a.out.now < length b = omega (arith, c.in_err-draw.ensures.err) in
    let w = sym (buffer_short a.verdict a.trace.now a.mode a.out.now h k) in
    record {
      answer = the_short c.from_residual.result c.from_residual.ensures.0 ∙ ap (λ (x : Made). x.answer) w;
      buffer = ap (λ (x : Made). x.out) w;
    }

pub returns : goal.returns
returns c = let a = c.args in
    let b = report_line a.mode (answer_of a.verdict a.trace.now) in
    let h : length_of a.verdict ≤ length a.trace.now = rw c.length.ensures at c.if-trace-length.false in
    let p = c.in_ok-draw-2.ensures.ok in
    let k : length b ≤ length a.out.now = omega (arith, p.room) in
    let n : c.draw-2.new.pen.at ≡ length b = omega (arith, p.at) in
    let w = sym (line_written a.verdict a.trace.now a.mode a.out.now h k) in
    record {
      answer = the_count n ∙ ap (λ (x : Made). x.answer) w;
      buffer = put_front b a.out.now c.draw-2.new.pen.out.now k p.out (search rules) ∙ ap (λ (x : Made). x.out) w;
    }
