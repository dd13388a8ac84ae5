use Rattle.std.proofs.Common.{arith}
use Rattle.std.proofs.lemmas.List.{take_more, take-append-drop}
use mathlib.Core.Path.{sym, ap, ◌∙◌}
use mathlib.Core.List.{List, ◌++◌}
use Prim.Native.Nat.{ℕ, ◌+◌}
use lib.ListN.{drop}
use Rattle.lines.proofs.Drawing.{took_then, draws_short_then}
use Rattle.lines.proofs.pen.Pen.word.Goals as goal

pub loop-b-preserved : goal.loop-b-preserved
loop-b-preserved g c =
    (omega arith, took_then g.Self.Pen.laws (take_more _ _ 0 c.loop-b-test.true) c.loop-b.invariant.1 c.in_ok-byte.ensures.ok)

pub returns-in_err-byte : goal.returns-in_err-byte
returns-in_err-byte g c =
    let s = c.args.text.now in
    let i = c.loop-b.b-index in
    let e = sym (take-append-drop (i + 1) s) ∙ ap (λ (l : List ℕ). l ++ drop (i + 1) s) (take_more s i 0 c.loop-b-test.true) in
    draws_short_then g.Self.Pen.laws _ _ e c.from_residual.ensures.0 c.loop-b.invariant.1 c.in_err-byte.ensures
