use Rattle.class_paths.proofs.PrefixOrder.{less_prefix, same_prefix}
use Rattle.class_paths.proofs.laws.prefixes_of_one_name.Goals as goal

pub returns-clause-order : goal.returns-clause-order
returns-clause-order c = less_prefix

pub returns-clause-same : goal.returns-clause-same
returns-clause-same c = same_prefix
