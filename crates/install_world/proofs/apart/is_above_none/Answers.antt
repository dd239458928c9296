use Rattle.std.proofs.Common.{refl}
use Rattle.install_world.proofs.ApartPaths.{above_none, above_none_by_first}
use Rattle.install_world.proofs.apart.is_above_none.Goals as goal

pub returns-in-None : goal.returns-in-None
returns-in-None c = (λ e. above_none c.args.paths.now c.args.path.now c.in-None.ensures, λ none. refl)

pub returns-in-Some : goal.returns-in-Some
returns-in-Some c =
    above_none_by_first c.args.paths.now c.args.path.now c.in-Some.first.now c.starts_with.result
    c.in-Some.ensures.0 c.in-Some.ensures.1 c.in-Some.ensures.2 c.starts_with.ensures
