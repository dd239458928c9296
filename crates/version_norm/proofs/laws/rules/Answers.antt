use Rattle.version_norm.proofs.Ordered.{normal_form_rule, one_rule}
use Rattle.version_norm.proofs.laws.rules.Goals as goal

pub returns-clause-taken : goal.returns-clause-taken
returns-clause-taken c = normal_form_rule

pub returns-clause-one : goal.returns-clause-one
returns-clause-one c = one_rule
