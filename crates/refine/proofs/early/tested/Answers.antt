use Rattle.std.proofs.Common.{◌≡◌, sym}
use Rattle.std.proofs.lemmas.Result.{err_from_is_err_and}
use Rattle.tables.specs.Bytes.{events}
use Rattle.refine.proofs.Tested.{mode_turned, rule_turned, flow_turned, events_turned, states_turned, short_turned, none_turned}
use native.Mathlib.Omega.{arith}
use Rattle.refine.proofs.early.tested.Goals as goal

pub returns-then-mode-gt1-clause-found : goal.returns-then-mode-gt1-clause-found
returns-then-mode-gt1-clause-found c = sym (mode_turned _ _ _ _ (omega arith))

pub returns-in_err-rule-clause-found : goal.returns-in_err-rule-clause-found
returns-in_err-rule-clause-found c = let R = c.in_err-rule.ensures.err in
    let p = err_from_is_err_and c.from_residual.result c.from_residual.ensures.1 in
    rw (p.1, p.2, R.is) (sym (rule_turned _ _ _ _ (omega arith) _ R.first))

pub returns-in_err-flow-clause-found : goal.returns-in_err-flow-clause-found
returns-in_err-flow-clause-found c = let F = c.in_err-flow.ensures.err in
    let p = err_from_is_err_and c.from_residual-in_err-flow.result c.from_residual-in_err-flow.ensures.1 in
    rw (p.1, p.2, F.is) (sym (flow_turned _ _ _ _ (omega arith) c.in_ok-rule.ensures.ok.good _ F.first))

pub returns-then-events-clause-found : goal.returns-then-events-clause-found
returns-then-events-clause-found c = let R = c.in_ok-rule.ensures.ok in
    let F = c.in_ok-flow.ensures.ok in
    rw (← R.bytes, ← F.bytes) (sym (events_turned _ _ _ _ (omega arith) c.events.ensures.good c.events-2.ensures.good (λ e. c.if-events.true (cc))))

pub returns-then-states-gt64-clause-found : goal.returns-then-states-gt64-clause-found
returns-then-states-gt64-clause-found c = let R = c.in_ok-rule.ensures.ok in
    let F = c.in_ok-flow.ensures.ok in
    let same : events c.in_ok-rule.rule ≡ events c.in_ok-flow.flow = cc in
    rw (← R.bytes, ← F.bytes) (sym (states_turned _ _ _ _ (omega arith) c.events.ensures.good c.events-2.ensures.good same (omega arith)))

pub returns-then-short-clause-found : goal.returns-then-short-clause-found
returns-then-short-clause-found c = let R = c.in_ok-rule.ensures.ok in
    let F = c.in_ok-flow.ensures.ok in
    let same : events c.in_ok-rule.rule ≡ events c.in_ok-flow.flow = cc in
    rw (← R.bytes, ← F.bytes) (sym (short_turned _ _ _ _ (omega arith) c.events.ensures.good c.events-2.ensures.good same (omega arith) c.if-short.true))

pub returns-clause-found : goal.returns-clause-found
returns-clause-found c = let R = c.in_ok-rule.ensures.ok in
    let F = c.in_ok-flow.ensures.ok in
    let same : events c.in_ok-rule.rule ≡ events c.in_ok-flow.flow = cc in
    rw (← R.bytes, ← F.bytes) (sym (none_turned _ _ _ _ (omega arith) c.events.ensures.good c.events-2.ensures.good same (omega arith) c.if-short.false))
