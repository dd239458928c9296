use Rattle.std.proofs.Common.{sym, subst}
use Rattle.std.specs.List.{AllByRecursion}
use Rattle.lock_file.specs.Rereading.{HasPath}
use Rattle.lock_file.proofs.KeptPlans.{all_listed}
use Rattle.lock_file.proofs.plan_lock.listing.Goals as goal

pub returns-clause-paths : goal.returns-clause-paths
returns-clause-paths c = subst (AllByRecursion HasPath) (sym c.of.ensures) (all_listed HasPath c.in_ok-list.list.items c.sort_by_name.new.list.items c.in_ok-sort_by_name.ensures c.in_ok-list.ensures.paths)
