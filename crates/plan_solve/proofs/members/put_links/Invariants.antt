use Rattle.std.proofs.Common.{◌≡◌, ◌++◌, drop}
use Rattle.std.specs.Prelude.{All}
use Rattle.pkg_pool.specs.declared.pool.Pool.{Pool}
use Rattle.plan_solve.specs.Search.{IsNeed, links_of}
use Rattle.plan_solve.proofs.members.put_links.Given as goal

abbrev pub invariant-loop-link : goal.invariant-loop-link
invariant-loop-link l = record {
  links : links_of l.queue.items ++ drop l.link-index l.links ≡ links_of l.fn.queue.items ++ l.links;
  needs : (pool : Pool) → All (IsNeed pool) l.fn.queue.items → All (IsNeed pool) l.queue.items;
}
