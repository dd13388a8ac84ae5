-- What the product promises of its calls together. Tables are bytes, as the calls take and leave them; what a check or a join
-- did is what its own promise says. Each promise holds wherever no call involved is refused.
use Rattle.std.specs.Prelude.{◌≡◌, List, ℕ, suc, ◌*◌, ◌<◌, ◌≤◌, length}
use Rattle.sets.specs.Sets.{Has, Holds}
use Rattle.csp.specs.Lts.{Can}
use Rattle.csp.specs.Table.{lts}
use Rattle.tables.specs.Bytes.{states, events, table_of}
use Rattle.tables.specs.declared.answer.Refusal.TheVariants.{Call}
use Rattle.refine.specs.Checking.{CheckCall, Nodes}
use Rattle.refine.specs.Verdicts.{length_of}
use Rattle.refine.specs.declared.verdict.Verdict.{Verdict}
use Rattle.refine.specs.declared.verdict.Verdict.TheVariants.{Refused}
use Rattle.demands.specs.Calls.{JoinWrote, WatchdogWrote, Checked, Passed, Broke, WillPass, WillBreak}

-- "If flow I passes against rule S, then for any table P and any set of shared events, I joined with P passes against S joined
-- with P, in the same mode."
abbrev pub PartsApart : Type 0
PartsApart =
    (mode X : ℕ) (i s p ip sp : List ℕ) → Passed mode s i → JoinWrote i p X ip → JoinWrote s p X sp → WillPass mode sp ip

-- "Each table passes against itself"
abbrev pub AgainstItself : Type 0
AgainstItself = (mode : ℕ) (t : List ℕ) → WillPass mode t t

-- "passing carries through a chain"
abbrev pub ThroughAChain : Type 0
ThroughAChain = (mode : ℕ) (a b c : List ℕ) → Passed mode b a → Passed mode c b → WillPass mode c a

-- "joining in another order [..] with the same set gives tables that pass against each other" (turn the two about for the
-- other way)
abbrev pub AnotherOrder : Type 0
AnotherOrder = (mode X : ℕ) (a b ab ba : List ℕ) → JoinWrote a b X ab → JoinWrote b a X ba → WillPass mode ba ab

-- ".. or grouping": the two tables are the same bytes, and so they pass against each other
pub record SameTable (l r : List ℕ) : Type 0 where
  pub bytes : l ≡ r
  pub there : (mode : ℕ) → WillPass mode r l
  pub back : (mode : ℕ) → WillPass mode l r

abbrev pub AnotherGrouping : Type 0
AnotherGrouping =
    (X : ℕ) (a b c ab bc l r : List ℕ) → JoinWrote a b X ab → JoinWrote b c X bc → JoinWrote ab c X l → JoinWrote a bc X r →
    SameTable l r

-- X names the events 1 to E.
abbrev pub OneTo : ℕ → ℕ → Type 0
OneTo E X = Holds Has X (λ e. (0 < e) × (e ≤ E))

-- "event E + 1 can occur exactly when the flow has a trace fault", t being the watchdog joined with the flow: where it can,
-- a check in mode 0 answers a trace fault; where a check answers one, it can; and where a check passes, it cannot.
pub record Watched (rule flow t : List ℕ) : Type 0 where
  pub cries : Can (lts (table_of t)) (suc (events rule)) → WillBreak 0 rule flow
  pub broke : Broke 0 rule flow → Can (lts (table_of t)) (suc (events rule))
  pub silent : Passed 0 rule flow → Can (lts (table_of t)) (suc (events rule)) → ⊥

-- "Joined on events 1 to E with a flow of the rule's E": with the watchdog as the first table
abbrev pub WatchdogFirst : Type 0
WatchdogFirst =
    (rule flow dog t : List ℕ) (X : ℕ) → events flow ≡ events rule → OneTo (events rule) X → WatchdogWrote rule dog →
    JoinWrote dog flow X t → Watched rule flow t

-- .. and as the second
abbrev pub WatchdogSecond : Type 0
WatchdogSecond =
    (rule flow dog t : List ℕ) (X : ℕ) → events flow ≡ events rule → OneTo (events rule) X → WatchdogWrote rule dog →
    JoinWrote flow dog X t → Watched rule flow t

-- "No fault's trace is longer than nodes × flow states": of the fault that a check reports
abbrev pub ShortTrace : Type 0
ShortTrace =
    (mode k : ℕ) (rule flow : List ℕ) (v : Verdict) → Nodes rule k → Checked mode rule flow v → length_of v ≤ k * states flow

-- "Its trace buffer has 16,384 bytes, so 14 is never printed."
abbrev pub NeverShort : Type 0
NeverShort =
    (rule flow : List ℕ) (mode : ℕ) (work16 work64 old left16 left64 new : List ℕ) → 16384 ≤ length old →
    CheckCall rule flow mode work16 work64 old (Refused (Call 14)) left16 left64 new → ⊥

-- Beyond the order, assume and guarantee: where a part passes against an assumption, and the assumption joined with the rest
-- passes against a property, the part joined with the rest passes against the property.
abbrev pub AssumeGuarantee : Type 0
AssumeGuarantee =
    (mode X : ℕ) (m₁ m₂ a p am mm : List ℕ) → Passed mode a m₁ → JoinWrote a m₂ X am → Passed mode p am → JoinWrote m₁ m₂ X mm →
    WillPass mode p mm
