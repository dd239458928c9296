use Rattle.std.proofs.Common.{◌≡◌, ◌++◌, drop}
use Rattle.lock_file.specs.PlanLocks.{platform_links}
use Rattle.lock_file.proofs.plan_lock.platform_links.Given as goal

abbrev pub invariant-loop-link : goal.invariant-loop-link
invariant-loop-link l = l.rows.items ++ platform_links (drop l.link-index l.links) ≡ platform_links l.links
