use mathlib.Core.Path.{refl, sym, ◌∙◌}
use Rattle.tables.proofs.table.Table.as_rule.Goals as goal

pub returns-in-Some : goal.returns-in-Some
returns-in-Some c = record {
  ok = tt;
  err = record { number = c.in-Some.k; first = sym c.test.ensures ∙ c.in-Some.is; is = refl };
}
