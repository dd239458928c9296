use Rattle.std.proofs.Common.{subst}
use Rattle.std.specs.Prelude.{IfOk}
use Rattle.lock_file.specs.PlanLocks.{IsLockOf}
use Rattle.lock_file.specs.Rereading.{HavePaths, IsKept}
use Rattle.lock_file.proofs.KeptPlans.{plan_kept, both_kept}
use Rattle.lock_file.proofs.plan_lock.lock_of.Goals as goal

pub returns-clause-kept : goal.returns-clause-kept
returns-clause-kept c = λ known own u.
    let pool = c.args.pool.now in
    let plan = c.args.plan.now.members in
    let hash = c.args.hash.now in
    both_kept c.lock_of_members.result (IsLockOf pool plan hash) HavePaths IsKept (λ lock is paths. plan_kept pool plan hash lock is known own u paths)
    (subst (λ members. IfOk c.lock_of_members.result (IsLockOf pool members hash)) c.as_slice.ensures c.lock_of_members.ensures.exact) c.lock_of_members.ensures.paths
