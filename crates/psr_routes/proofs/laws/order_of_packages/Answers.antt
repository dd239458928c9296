use Rattle.psr_routes.proofs.PackageLaws.{all_places, needs_first}
use Rattle.psr_routes.proofs.laws.order_of_packages.Goals as goal

pub returns-clause-places : goal.returns-clause-places
returns-clause-places c = all_places

pub returns-clause-needs : goal.returns-clause-needs
returns-clause-needs c = needs_first
