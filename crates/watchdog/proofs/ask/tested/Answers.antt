use Rattle.std.proofs.Common.{ℕ, List, Ok, sym, ap, ◌∙◌, subst}
use Rattle.std.proofs.lemmas.Result.{err_from_is_err_and}
use Rattle.tables.specs.Bytes.{states, events}
use Rattle.watchdog.specs.Tests.{Tested, no_table, many_states, all_events, short_work, passed}
use Rattle.watchdog.proofs.Answering.{many, as_rule}
use Rattle.watchdog.proofs.ask.tested.Goals as goal

pub returns-in_err-table : goal.returns-in_err-table
returns-in_err-table c = let p = err_from_is_err_and c.from_residual.result c.from_residual.ensures.1 in
    let F = c.in_err-table.ensures.err in
    rw (p.1, p.2, F.is) (no_table F.first)

pub returns-then-states-gt64 : goal.returns-then-states-gt64
returns-then-states-gt64 c = let R = c.in_ok-table.ensures.ok in
    many_states R.good (many _ _ (c.states.ensures.states ∙ ap states R.bytes) c.if-states-gt64.true)

pub returns-then-events-eq63 : goal.returns-then-events-eq63
returns-then-events-eq63 c = let R = c.in_ok-table.ensures.ok in
    all_events
    (as_rule R (c.states.ensures.states ∙ ap states R.bytes) c.if-states-gt64.false)
    (sym (c.events.ensures.events ∙ ap events R.bytes) ∙ c.if-events-eq63.true)

pub returns-then-lacks : goal.returns-then-lacks
returns-then-lacks c = let R = c.in_ok-table.ensures.ok in
    short_work
    (as_rule R (c.states.ensures.states ∙ ap states R.bytes) c.if-states-gt64.false)
    (λ e. c.if-events-eq63.false (c.events.ensures.events ∙ ap events R.bytes ∙ e))
    c.if-lacks.true

pub returns : goal.returns
returns c = let R = c.in_ok-table.ensures.ok in
    let To : List ℕ → Type 0 = λ t. Tested c.args.rule.now c.args.lacks (Ok t) in
    subst To (sym R.bytes)
    (passed
    (as_rule R (c.states.ensures.states ∙ ap states R.bytes) c.if-states-gt64.false)
    (λ e. c.if-events-eq63.false (c.events.ensures.events ∙ ap events R.bytes ∙ e))
    c.if-lacks.false)
