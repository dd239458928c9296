use Rattle.std.proofs.Common.{◌≡◌, map, take}
use Rattle.psr_routes.specs.PackageOrder.{ordered}
use Rattle.autoload_build.specs.Steps.{seen, package_source}
use Rattle.autoload_build.proofs.sources.in_order.Given as goal

abbrev pub invariant-loop-place : goal.invariant-loop-place
invariant-loop-place l = seen l.sources.items ≡ map (λ one. package_source one.1) (take l.place-index (ordered l.members))
