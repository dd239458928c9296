use Rattle.plan_rules.proofs.LinkNames.{on_package, on_platform}
use Rattle.plan_rules.proofs.laws.link_names.Goals as goal

pub returns-clause-packages : goal.returns-clause-packages
returns-clause-packages c own link read = on_package link.name read.name

pub returns-clause-platform : goal.returns-clause-platform
returns-clause-platform c own link read = on_platform link.name read.name
