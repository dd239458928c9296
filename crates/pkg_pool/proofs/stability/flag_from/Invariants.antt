use Rattle.std.proofs.Common.{◌≡◌, drop}
use Rattle.pkg_pool.specs.Stability.{flag_from}
use Rattle.pkg_pool.proofs.stability.flag_from.Given as goal

abbrev pub invariant-loop-link : goal.invariant-loop-link
invariant-loop-link l = flag_from l.minimum l.name l.found (drop l.link-index l.links) ≡ flag_from l.minimum l.name l.fn.found l.links
