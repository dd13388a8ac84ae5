use native.Mathlib.Omega.{arith}
use Rattle.std.proofs.Common.{◌≡◌, Some, None}
use Rattle.std.proofs.lemmas.Result.{err_from_is_err_and}
use Rattle.tables.specs.declared.answer.Refusal.TheVariants.{Rule}
use Rattle.watchdog.proofs.Answering.{tested_refused, tested_clear, answers_over, answers_put, form_spare}
use Rattle.watchdog.proofs.ask.made.Goals as goal

pub returns-in_err-table : goal.returns-in_err-table
returns-in_err-table c = let p = err_from_is_err_and c.from_residual.result c.from_residual.ensures.1 in
    rw (p.1, p.2) (tested_refused _ _ _ _ c.tested.ensures c.in_err-table.was)

pub returns-in_err-form : goal.returns-in_err-form
returns-in_err-form c = let q = tested_clear _ _ c.args.out.now c.tested.ensures c.in_ok-table.was in
    let none : c.normal_of.result ≡ None = grind (arith, c.in_err-form.was, c.ok_or.ensures.value) in
    let twelve : c.in_err-form.field-0.0 ≡ Rule 12 = grind (arith, c.in_err-form.was, c.ok_or.ensures.value) in
    let p = err_from_is_err_and c.from_residual-in_err-form.result c.from_residual-in_err-form.ensures.1 in
    rw (p.1, p.2, twelve) (answers_over _ _ _ q.0 _ (rw (c.bytes.ensures.bytes, q.1) at c.normal_of.ensures) none)

pub normal_of-requires : goal.normal_of-requires
normal_of-requires c = let q = tested_clear _ _ c.args.out.now c.tested.ensures c.in_ok-table.was in
    rw (c.bytes.ensures.bytes, q.1) q.0.good

pub put_watchdog-requires-clause-events_fit : goal.put_watchdog-requires-clause-events_fit
put_watchdog-requires-clause-events_fit c = let q = tested_clear _ _ c.args.out.now c.tested.ensures c.in_ok-table.was in
    let some : c.normal_of.result ≡ Some c.in_ok-form.form = grind (arith, c.in_ok-form.was, c.ok_or.ensures.value) in
    form_spare _ _ _ q.0 _ (rw (c.bytes.ensures.bytes, q.1) at c.normal_of.ensures) _ some

pub returns : goal.returns
returns c = let q = tested_clear _ _ c.args.out.now c.tested.ensures c.in_ok-table.was in
    let w = rw (c.bytes.ensures.bytes, q.1) at c.normal_of.ensures in
    let some : c.normal_of.result ≡ Some c.in_ok-form.form = grind (arith, c.in_ok-form.was, c.ok_or.ensures.value) in
    answers_put _ _ _ q.0 _ w _ some c.put_watchdog.ensures
