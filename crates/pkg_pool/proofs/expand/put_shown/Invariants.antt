use Rattle.std.proofs.Common.{◌≡◌, ◌++◌, take}
use Rattle.pkg_pool.specs.Patterns.{shown_in}
use Rattle.pkg_pool.proofs.expand.put_shown.Given as goal

abbrev pub invariant-loop-name : goal.invariant-loop-name
invariant-loop-name l = l.found.items ≡ l.fn.found.items ++ shown_in l.folder (take l.name-index l.names)
