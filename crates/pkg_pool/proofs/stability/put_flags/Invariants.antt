use Rattle.std.proofs.Common.{◌≡◌, ℕ, List, drop}
use Rattle.std.specs.BTreeMap.{get}
use Rattle.path_name.specs.Orders.{byte_cmp}
use Rattle.pkg_pool.specs.Stability.{flag_from}
use Rattle.pkg_pool.proofs.stability.put_flags.Given as goal

abbrev pub invariant-loop-link : goal.invariant-loop-link
invariant-loop-link l = (name : List ℕ) → flag_from l.minimum name (get byte_cmp l.flags name) (drop l.link-index l.links) ≡ flag_from l.minimum name (get byte_cmp l.fn.flags name) l.links
