-- What calls did and will do, said by their own promises alone, on bytes.
use Rattle.std.specs.Prelude.{◌≡◌, List, ℕ, take, Ok}
use Rattle.joins.specs.Joining.{JoinCall}
use Rattle.watchdog.specs.Asking.{WatchdogCall}
use Rattle.refine.specs.Checking.{CheckCall}
use Rattle.refine.specs.declared.verdict.Verdict.{Verdict}
use Rattle.refine.specs.declared.verdict.Verdict.TheVariants.{Passes, TraceFault, Refused}

-- A call of join wrote the table t: the bytes at the front of the result buffer, as many as the call answered.
pub record JoinWrote (first second : List ℕ) (X : ℕ) (t : List ℕ) : Type 0 where
  pub old : List ℕ
  pub new : List ℕ
  pub size : ℕ
  pub call : JoinCall first second X old (Ok size) new
  pub is : t ≡ take size new

-- A call of the watchdog's builder wrote the table t.
pub record WatchdogWrote (asked t : List ℕ) : Type 0 where
  pub work16 : List ℕ
  pub work64 : List ℕ
  pub old : List ℕ
  pub left16 : List ℕ
  pub left64 : List ℕ
  pub new : List ℕ
  pub size : ℕ
  pub call : WatchdogCall asked work16 work64 old (Ok size) left16 left64 new
  pub is : t ≡ take size new

-- A check of the flow against the rule in the mode gave the answer v.
pub record Checked (mode : ℕ) (rule flow : List ℕ) (v : Verdict) : Type 0 where
  pub work16 : List ℕ
  pub work64 : List ℕ
  pub old : List ℕ
  pub left16 : List ℕ
  pub left64 : List ℕ
  pub new : List ℕ
  pub call : CheckCall rule flow mode work16 work64 old v left16 left64 new

-- A check answered passes.
pub record Passed (mode : ℕ) (rule flow : List ℕ) : Type 0 where
  pub nodes : ℕ
  pub pairs : ℕ
  pub checked : Checked mode rule flow (Passes nodes pairs)

-- A check answered a trace fault.
pub record Broke (mode : ℕ) (rule flow : List ℕ) : Type 0 where
  pub length : ℕ
  pub checked : Checked mode rule flow (TraceFault length)

-- passes, or refused
pub data PassOrRefusal : Verdict → Type 0 where
  pass : {nodes pairs : ℕ} → PassOrRefusal (Passes nodes pairs)
  refusal : {w : _} → PassOrRefusal (Refused w)

-- a trace fault, or refused
pub data BreakOrRefusal : Verdict → Type 0 where
  break : {length : ℕ} → BreakOrRefusal (TraceFault length)
  refusal : {w : _} → BreakOrRefusal (Refused w)

-- Every check, whatever is lent to it, answers passes or refuses.
abbrev pub WillPass : ℕ → List ℕ → List ℕ → Type 0
WillPass mode rule flow = (v : Verdict) → Checked mode rule flow v → PassOrRefusal v

-- Every check, whatever is lent to it, answers a trace fault or refuses.
abbrev pub WillBreak : ℕ → List ℕ → List ℕ → Type 0
WillBreak mode rule flow = (v : Verdict) → Checked mode rule flow v → BreakOrRefusal v
