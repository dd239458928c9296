use Rattle.plan_rules.proofs.FitsBeside.{larger_breaks_none, larger_fits}
use Rattle.plan_rules.proofs.laws.fitting.Goals as goal

pub returns-clause-breaks_none : goal.returns-clause-breaks_none
returns-clause-breaks_none c = larger_breaks_none

pub returns-clause-fits : goal.returns-clause-fits
returns-clause-fits c = larger_fits
