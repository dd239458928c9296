use Rattle.autoload_build.proofs.Agreement.{unambiguous}
use Rattle.autoload_build.proofs.LookedUp.{listed_or_not_found}
use Rattle.autoload_build.proofs.laws.optimised_tables.Goals as goal

pub returns-clause-unambiguous : goal.returns-clause-unambiguous
returns-clause-unambiguous c = unambiguous

pub returns-clause-others : goal.returns-clause-others
returns-clause-others c = listed_or_not_found
