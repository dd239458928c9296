use Rattle.psr_routes.proofs.NameNumbers.{named_order, lent_in_order}
use Rattle.psr_routes.proofs.needs.names_in_order.Goals as goal

pub returns-clause-all : goal.returns-clause-all
returns-clause-all c = named_order c.args.members.now _ _ c.in_ok-names.ensures c.sort_unstable.ensures.permutation

pub returns-clause-in_order : goal.returns-clause-in_order
returns-clause-in_order c = lent_in_order _ c.sort_unstable.ensures.sorted
