-- What the first tests find, one after the other; and what holds where they find nothing.
use mathlib.Core.Path.{◌≡◌, refl, ap, sym, subst₂, ◌∙◌}
use mathlib.Core.Logic.{◌≢◌}
use mathlib.Core.Bool.{Bool, true, false, true≢false}
use mathlib.Core.List.{List}
use Rattle.std.specs.Prelude.{Option, None, Some}
use Prim.Native.Nat.{ℕ, zero, suc, ◌≤◌, ◌<◌}
use native.Mathlib.Omega.{arith}
use borrow.Author.Tests.{eqb-true, ltb-false, lt-ltb, le-ltb, eq-eqb, ne_eqb, not-false}
use Rattle.tables.specs.Tests.{when}
use Rattle.tables.specs.Bytes.{states, events}
use Rattle.tables.specs.Valid.{refusal}
use Rattle.tables.specs.Rule.{has_many_states}
use Rattle.tables.specs.Answers.{rule, flow, call}
use Rattle.refine.specs.Refusals.{Turned, let_in, turned, own, wrong_mode, other_events, tests}

wrong : (mode : ℕ) → 1 < mode → wrong_mode mode ≡ true
wrong mode h = simp (ne_eqb mode 0 (omega arith), ne_eqb mode 1 (omega arith))

allowed : (mode : ℕ) → mode ≤ 1 → wrong_mode mode ≡ false
allowed zero h = refl
allowed (suc zero) h = refl
allowed (suc (suc m)) h = absurd (omega arith)

module _ (r f : List ℕ) (mode : ℕ) (short : Bool) where
  pub mode_turned : 1 < mode → tests r f mode short ≡ turned call 8
  unfolding tests
  mode_turned h = rw (wrong mode h)

  module _ (m : mode ≤ 1) where
    pub rule_turned : (k : ℕ) → refusal r ≡ Some k → tests r f mode short ≡ turned rule k
    unfolding tests
    rule_turned k h = rw (allowed mode m, h)

    module _ (cr : refusal r ≡ None) where
      pub flow_turned : (k : ℕ) → refusal f ≡ Some k → tests r f mode short ≡ turned flow k
      unfolding tests
      flow_turned k h = rw (allowed mode m, cr, h)

      module _ (cf : refusal f ≡ None) where
        pub events_turned : events r ≢ events f → tests r f mode short ≡ turned call 9
        unfolding tests
        events_turned h = rw (allowed mode m, cr, cf, ne_eqb (events r) (events f) h)

        module _ (e : events r ≡ events f) where
          pub states_turned : 64 < states r → tests r f mode short ≡ turned rule 10
          unfolding tests
          states_turned h = rw (allowed mode m, cr, cf, eq-eqb (events r) (events f) e, lt-ltb 64 (states r) h)

          module _ (n : states r ≤ 64) where
            pub short_turned : short ≡ true → tests r f mode short ≡ turned call 11
            unfolding tests
            short_turned h =
                rw (allowed mode m, cr, cf, eq-eqb (events r) (events f) e, le-ltb 64 (states r) n)
                (ap (λ (b : Bool). when b (turned call 11) let_in) h)

            pub none_turned : short ≡ false → tests r f mode short ≡ let_in
            unfolding tests
            none_turned h =
                rw (allowed mode m, cr, cf, eq-eqb (events r) (events f) e, le-ltb 64 (states r) n)
                (ap (λ (b : Bool). when b (turned call 11) let_in) h)

-- Where nothing is found, the mode is 0 or 1, both tables are good and of one E, the rule has at most 64 states, and no
-- workspace is short.
pub record LetIn (r f : List ℕ) (mode : ℕ) (short : Bool) : Type 0 where
  pub mode_upto : mode ≤ 1
  pub rule_clear : refusal r ≡ None
  pub flow_clear : refusal f ≡ None
  pub events_same : events r ≡ events f
  pub states_upto : states r ≤ 64
  pub long : short ≡ false

when_in : (b : Bool) (w k : ℕ) (later : Turned) → when b (turned w k) later ≡ let_in → (b ≡ false) × (later ≡ let_in)
when_in true w k later h = cc
when_in false w k later h = (refl, h)

own_in : (w : ℕ) (t : Option ℕ) (later : Turned) → own w t later ≡ let_in → (t ≡ None) × (later ≡ let_in)
own_in w (Some k) later h = cc
own_in w None later h = (refl, h)

mode_low : (mode : ℕ) → wrong_mode mode ≡ false → mode ≤ 1
mode_low zero h = omega arith
mode_low (suc zero) h = omega arith
mode_low (suc (suc m)) h = let e = sym (wrong (suc (suc m)) (omega arith)) ∙ h in cc

pub let_in_all : (r f : List ℕ) (mode : ℕ) (short : Bool) → tests r f mode short ≡ let_in → LetIn r f mode short
unfolding tests
let_in_all r f mode short h =
    let a = when_in (wrong_mode mode) call 8 _ h in
    let b = own_in rule (refusal r) _ a.1 in
    let c = own_in flow (refusal f) _ b.1 in
    let d = when_in (other_events r f) call 9 _ c.1 in
    let e = when_in (has_many_states r) rule 10 _ d.1 in
    let g = when_in short call 11 let_in e.1 in
    record {
      mode_upto = mode_low mode a.0;
      rule_clear = b.0;
      flow_clear = c.0;
      events_same = eqb-true (events r) (events f) (not-false _ d.0);
      states_upto = ltb-false 64 (states r) e.0;
      long = g.0;
    }

-- What turns a call away has each property that all these refusals have.
module _ (P : ℕ → ℕ → Type 0) where
  when_each :
      (b : Bool) (v j : ℕ) (later : Turned) {w k : ℕ} → (b ≡ true → P v j) → (later ≡ turned w k → P w k) →
      when b (turned v j) later ≡ turned w k → P w k
  when_each true v j later p q h = subst₂ P (cc) (cc) (p refl)
  when_each false v j later p q h = q h

  own_each :
      (v : ℕ) (t : Option ℕ) (later : Turned) {w k : ℕ} → ((j : ℕ) → t ≡ Some j → P v j) → (later ≡ turned w k → P w k) →
      own v t later ≡ turned w k → P w k
  own_each v (Some j) later p q h = subst₂ P (cc) (cc) (p j refl)
  own_each v None later p q h = q h

  pub turned_each :
      (r f : List ℕ) (mode : ℕ) (short : Bool) {w k : ℕ} → (wrong_mode mode ≡ true → P call 8) →
      ((j : ℕ) → refusal r ≡ Some j → P rule j) → ((j : ℕ) → refusal f ≡ Some j → P flow j) → P call 9 → P rule 10 →
      P call 11 → tests r f mode short ≡ turned w k → P w k
  unfolding tests
  turned_each r f mode short p8 pr pf p9 p10 p11 =
      when_each (wrong_mode mode) call 8 _ p8
      (own_each rule (refusal r) _ pr
      (own_each flow (refusal f) _ pf
      (when_each (other_events r f) call 9 _ (λ h. p9)
      (when_each (has_many_states r) rule 10 _ (λ h. p10)
      (when_each short call 11 let_in (λ h. p11) (λ h. cc))))))

-- Two good tables and a mode that is allowed are turned away by 9, 10 or 11 only.
pub good_turned :
    (r f : List ℕ) (mode : ℕ) (short : Bool) → mode ≤ 1 → refusal r ≡ None → refusal f ≡ None → (w k : ℕ) →
    tests r f mode short ≡ turned w k → (9 ≤ k) × (k ≤ 11)
good_turned r f mode short m cr cf w k =
    turned_each (λ v j. (9 ≤ j) × (j ≤ 11)) r f mode short
    (λ h. absurd (true≢false (sym h ∙ allowed mode m)))
    (λ j h. cc)
    (λ j h. cc)
    (omega arith, omega arith)
    (omega arith, omega arith)
    (omega arith, omega arith)
