use Prim.Native.Nat.{ℕ}
use mathlib.Core.Logic.{◌⊎◌, inl, inr}
use mathlib.Core.Path.{◌≡◌, ap, sym}
use Rattle.tables.specs.Answers.{number_of}
use Rattle.tables.specs.declared.answer.Refusal.{Refusal}
use Rattle.tables.specs.declared.answer.Refusal.TheVariants.{Rule, Flow, Call}
use Rattle.tables.proofs.answer.Refusal.number.Goals as goal

of_any : (w : Refusal) (k : ℕ) → (w ≡ Call k) ⊎ ((w ≡ Rule k) ⊎ (w ≡ Flow k)) → k ≡ number_of w
of_any w k (inl e) = sym (ap number_of e)
of_any w k (inr (inl e)) = sym (ap number_of e)
of_any w k (inr (inr e)) = sym (ap number_of e)

pub returns-in-Call : goal.returns-in-Call
returns-in-Call c = of_any _ _ c.in-Call.is
