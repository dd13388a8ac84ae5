use Prim.Native.Nat.{ℕ, ◌<◌}
use mathlib.Core.Bool.{Bool, true, false, ◌||◌}
use mathlib.Core.Path.{◌≡◌, refl, sym, ap, ◌∙◌}
use native.Mathlib.Omega.{arith}
use Rattle.std.specs.Prelude.{Some}
use Rattle.csp.specs.Table.{Move}
use Rattle.tables.specs.Moves.{meant}
use Rattle.tables.specs.Valid.{misnames, circles, misnamed, disordered, circling, later_tests}
use Rattle.tables.specs.Tests.{some}
use Rattle.tables.proofs.Some.{some_here, some_next, some_more, some_fewer}
use Rattle.tables.proofs.Order.{disordered_next}
use Rattle.tables.proofs.Tested.{later_4, later_5, later_6, later_7, sound_clear}
use Rattle.tables.proofs.moves.test.Goals as goal

-- what is found of a move of the row, where nothing was found before
of_row : (f : Move → Bool) {v w : Move} {r b t : Bool} → v ≡ w → b ≡ false → r ≡ (b || f v) → r ≡ t → f w ≡ t
of_row f {v} p n e h = ap f (sym p) ∙ sym (e ∙ ap (λ (x : Bool). x || f v) n) ∙ h

-- 5, by one move of the row
five_here : (n E s : ℕ) (at : ℕ → Move) (m j : ℕ) → s < n → j < m → misnames n E (at j) ≡ true → Some 5 ≡ later_tests n E s at m
unfolding misnamed
five_here n E s at m j h l e = later_5 _ _ _ _ _ h (some_here _ _ _ l e)

-- 4 comes first: where it holds, no move is read,
-- and each later answer rests on a start below n
pub returns-then-start-n : goal.returns-then-start-n
returns-then-start-n g c = later_4 _ _ _ _ _ c.if-start-n.true

pub loop-j-init : goal.loop-j-init
unfolding misnamed disordered circling some
loop-j-init g c = record { clear = refl; named = refl; disordered = refl; circling = refl; last = λ i e. absurd (omega arith) }

pub returns-then-found : goal.returns-then-found
returns-then-found g c = let a = c.args in
    let v : meant c.at-v.result ≡ g.moves c.loop-j.j = c.requires.1.1 _ _ c.loop-j-test.true c.at-v.ensures in
    five_here _ _ _ _ _ _ c.if-start-n.false c.loop-j-test.true
    (of_row (misnames a.n a.e) v c.loop-j.invariant.clear c.look-found.ensures.misnamed c.if-found.true)

pub loop-j-preserved : goal.loop-j-preserved
unfolding misnamed circling
loop-j-preserved g c = let a = c.args in let j = c.loop-j.j in let i = c.loop-j.invariant in let f = c.look-found.ensures in
    let v : meant c.at-v.result ≡ g.moves j = c.requires.1.1 _ _ c.loop-j-test.true c.at-v.ensures in
    record {
      clear = c.if-found.false;
      named = some_next (λ k. misnames a.n a.e (g.moves k)) j i.named (of_row (misnames a.n a.e) v i.clear f.misnamed c.if-found.false);
      disordered = disordered_next g.moves j i.disordered v i.last f.disordered;
      circling = some_more (λ k. circles (g.moves k)) j i.circling (ap circles v) f.circling;
      last = λ k e. ap meant f.last ∙ v ∙ ap g.moves (let d : j ≡ k = omega arith in d);
    }

pub returns-then-found-2 : goal.returns-then-found-2
unfolding misnamed
returns-then-found-2 g c = let i = c.loop-j.invariant in
    let e : c.args.m ≡ c.loop-j.j = omega arith in
    later_6 _ _ _ _ _ c.if-start-n.false (some_fewer _ _ i.named c.loop-j-test.false)
    (ap (disordered g.moves) e ∙ sym i.disordered ∙ c.if-found-2.true)

pub returns-then-found-3 : goal.returns-then-found-3
unfolding misnamed
returns-then-found-3 g c = let i = c.loop-j.invariant in
    let e : c.args.m ≡ c.loop-j.j = omega arith in
    later_7 _ _ _ _ _ c.if-start-n.false (some_fewer _ _ i.named c.loop-j-test.false)
    (ap (disordered g.moves) e ∙ sym i.disordered ∙ c.if-found-2.false)
    (ap (circling g.moves) e ∙ sym i.circling ∙ c.if-found-3.true)

pub returns : goal.returns
unfolding misnamed
returns g c = let i = c.loop-j.invariant in
    let e : c.args.m ≡ c.loop-j.j = omega arith in
    sym (sound_clear _ _ _ _ _ (record {
      starts = c.if-start-n.false;
      named = some_fewer _ _ i.named c.loop-j-test.false;
      ascending = ap (disordered g.moves) e ∙ sym i.disordered ∙ c.if-found-2.false;
      no_circle = ap (circling g.moves) e ∙ sym i.circling ∙ c.if-found-3.false;
    }))
