use Rattle.plan_rules.proofs.NewChoices.{are_new, distinct, few}
use Rattle.std.proofs.Common.{[]}
use Rattle.plan_rules.proofs.laws.new_choices.Goals as goal

-- src/laws.rt:46:1
pub returns-clause-distinct : goal.returns-clause-distinct
returns-clause-distinct c pool plan first = distinct [] plan (are_new pool [] plan first.choices)

-- src/laws.rt:46:1
pub returns-clause-bounded : goal.returns-clause-bounded
returns-clause-bounded c pool plan first = few pool plan first.choices
