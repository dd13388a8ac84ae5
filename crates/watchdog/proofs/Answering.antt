-- What is answered, from what the tests and the builder leave.
use Prim.Native.Nat.{ℕ, ◌<◌, ◌≤◌}
use mathlib.Core.Path.{◌≡◌, sym, ◌∙◌, subst}
use mathlib.Core.Bool.{Bool, true, false, true≢false}
use mathlib.Core.Logic.{◌≢◌}
use Rattle.std.proofs.Common.{Option, Some, None, Result, Ok, Err}
use mathlib.Core.List.{List}
use native.Mathlib.Omega.{arith}
use lib.Dec.{ltb}
use borrow.Author.Tests.{ltb-true, lt-ltb}
use Rattle.csp.specs.Table.{Table}
use Rattle.csp.specs.Watchdog.{Watches}
use Rattle.tables.specs.Bytes.{states, events, table_of, encoded}
use Rattle.tables.specs.Rule.{has_many_states, ManyNodes}
use Rattle.tables.specs.Held.{Held}
use Rattle.tables.specs.Answers.{Says, refused, rule, whose, number_of}
use Rattle.tables.specs.declared.answer.Refusal.{Refusal}
use Rattle.tables.proofs.Encoded.{denotes, encoded_clear, encoded-bytes}
use Rattle.normal.specs.declared.form.Form.{Form}
use Rattle.normal.specs.Made.{FormOf, Formed}
use Rattle.normal.specs.Rule.{AsRule}
use Rattle.normal.proofs.Ruling.{rule_fits, events_upto}
use Rattle.normal.proofs.Sole.{not-over, formed_some, formed_none}
use Rattle.watchdog.specs.Asking as asking
use Rattle.watchdog.specs.Asking.{AllEvents, Made, Unless, refuses, passes, Puts, Writes, table}
use Rattle.watchdog.specs.Rows.{watch_table}
use Rattle.watchdog.specs.Tests.{Tested, no_table, many_states, all_events, short_work, passed, Answers}
use Rattle.watchdog.proofs.Watched.{table_watches, table_proper}

few_states : (asked : List ℕ) → AsRule asked → has_many_states asked ≡ true → ⊥
few_states asked r h = omega (arith, r.small, ltb-true 64 (states asked) h)

pub many : (n m : ℕ) → n ≡ m → 64 < n → ltb 64 m ≡ true
many n m e h = lt-ltb 64 m (omega arith)

-- bytes taken as a table, of few states
pub as_rule : {asked t : List ℕ} {n : ℕ} → Held asked t → n ≡ states asked → n ≤ 64 → AsRule asked
as_rule h e l = record { clear = h.good; small = omega arith }

module _ (asked : List ℕ) (lacks : Bool) (old : List ℕ) where
  said :
      {v w : Refusal} → ◌≡◌ {A = Result (List ℕ) Refusal} (Err v) (Err w) → Answers asked lacks old (refused (whose v) (number_of v)) old →
      Answers asked lacks old (refused (whose w) (number_of w)) old
  said {v} {w} e a =
      let q : v ≡ w = cc in
      subst (λ (x : Refusal). Answers asked lacks old (refused (whose x) (number_of x)) old) q a

  -- where a test refuses, the call is refused
  pub tested_refused :
      {r : Result (List ℕ) Refusal} (w : Refusal) → Tested asked lacks r → r ≡ Err w →
      Answers asked lacks old (refused (whose w) (number_of w)) old
  tested_refused w (no_table h) q = said q (λ a b s. asking.no_table h)
  tested_refused w (many_states h k) q = said q (λ a b s. table h (refuses k))
  tested_refused w (all_events r k) q = said q (λ a b s. table r.clear (passes (few_states asked r) (refuses k)))
  tested_refused w (short_work r k l) q =
      said q (λ a b s. table r.clear (passes (few_states asked r) (passes k (refuses (sym s ∙ l)))))
  tested_refused w (passed r k l) q = absurd (cc)

  -- where none does, the nodes decide
  pub record Passed : Type 0 where
    pub good : AsRule asked
    pub spare : AllEvents asked → ⊥
    pub enough : lacks ≡ false

  pub tested_clear : {r : Result (List ℕ) Refusal} {t : List ℕ} → Tested asked lacks r → r ≡ Ok t → Passed × (t ≡ asked)
  tested_clear (no_table h) q = absurd (cc)
  tested_clear (many_states h k) q = absurd (cc)
  tested_clear (all_events h k) q = absurd (cc)
  tested_clear (short_work h k l) q = absurd (cc)
  tested_clear (passed h k l) q = (record { good = h; spare = k; enough = l }, cc)

  past :
      Passed → {says : Says} {new : List ℕ} → Unless (ManyNodes asked) (refused rule 12) (Writes (table_of asked) old) old says new →
      Answers asked lacks old says new
  past p rest a b s =
      table p.good.clear
      (passes (few_states asked p.good) (passes p.spare (passes (λ t. true≢false (sym t ∙ sym s ∙ p.enough)) rest)))

module _ (asked : List ℕ) (lacks : Bool) (old : List ℕ) (p : Passed asked lacks old) (o : Option Form) (w : Formed (table_of asked) o) where
  pub answers_over : o ≡ None → Answers asked lacks old (refused rule 12) old
  answers_over h = past asked lacks old p (refuses (formed_none (table_of asked) (rule_fits asked p.good) w h))

  module _ (f : Form) (is : o ≡ Some f) where
    form_of : (nodes : List ℕ) × FormOf (table_of asked) nodes f
    form_of = formed_some (table_of asked) (rule_fits asked p.good) w is

    pub form_spare : f.events < 63
    form_spare = let n : events asked ≢ 63 = p.spare in omega (arith, form_of.1.events_is, events_upto asked p.good)

    few : ManyNodes asked → ⊥
    few m = not-over (table_of asked) (rule_fits asked p.good) form_of.1 m

    made : Made (table_of asked) (encoded (watch_table f))
    made =
        let g = table_proper (table_of asked) (rule_fits asked p.good) form_of.0 f form_of.1 form_spare in
        record {
          nodes = form_of.0;
          normal = form_of.1.normal;
          bytes = encoded-bytes (watch_table f) g;
          good = encoded_clear (watch_table f) g;
          watches =
              subst
              (λ (t : Table). Watches (table_of asked) form_of.0 t)
              (sym (denotes (watch_table f)))
              (table_watches (table_of asked) (rule_fits asked p.good) form_of.0 f form_of.1 form_spare);
        }

    pub answers_put : {says : Says} {new : List ℕ} → Puts (encoded (watch_table f)) old says new → Answers asked lacks old says new
    answers_put p' = past asked lacks old p (passes few (record { table = encoded (watch_table f); made = made; puts = p' }))
