use Rattle.std.proofs.Common.{◌≡◌, take}
use Rattle.class_paths.specs.Candidates.{of_kind}
use Rattle.autoload_build.specs.Steps.{lent}
use Rattle.autoload_build.proofs.prefixes.of_kind.Given as goal

abbrev pub invariant-loop-route : goal.invariant-loop-route
invariant-loop-route l = lent l.some.items ≡ of_kind l.kind (take l.route-index l.routes)
