use Rattle.std.proofs.Common.{refl, sym, ◌∙◌}
use Rattle.package_moves.specs.Needed.{needs_in}
use Rattle.package_moves.proofs.KnownSteps.{adds_one}
use Rattle.package_moves.proofs.unneeded.look_at_name.Goals as goal

pub returns-clause-known : goal.returns-clause-known
returns-clause-known g c = λ name is.
    adds_one (needs_in c.args.needed.now) name c.args.path is c.args.found.now _ (sym c.is_above.ensures ∙ c.if-is_above.false) c.in_ok-add_other.ensures refl
