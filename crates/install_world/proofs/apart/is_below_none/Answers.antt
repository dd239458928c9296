use Rattle.std.proofs.Common.{refl}
use Rattle.install_world.proofs.ApartPaths.{below_none, below_none_by_last}
use Rattle.install_world.proofs.apart.is_below_none.Goals as goal

pub returns-in-None : goal.returns-in-None
returns-in-None c = (λ e. below_none c.args.paths.now c.args.path.now c.in-None.ensures, λ none. refl)

pub returns-in-Some : goal.returns-in-Some
returns-in-Some c =
    below_none_by_last c.args.paths.now c.args.path.now c.in-Some.last.now c.starts_with.result c.requires
    c.in-Some.ensures.0 c.in-Some.ensures.1 c.in-Some.ensures.2 c.starts_with.ensures
