use Rattle.std.proofs.Common.{◌≡◌, ◌++◌, map}
use Rattle.lock_file.specs.PlanLocks.{row_of}
use Rattle.lock_file.proofs.plan_lock.rows_of.Given as goal

abbrev pub invariant-loop-name : goal.invariant-loop-name
invariant-loop-name l = l.rows.items ++ map row_of l.name-iterator ≡ map row_of l.flags.entries
