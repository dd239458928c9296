use Rattle.std.proofs.Common.{ap, arith}
use Rattle.class_paths.specs.Prefixes.{is_backslash}
use Rattle.class_paths.proofs.PathParts.{own_name_is}
use Rattle.class_paths.proofs.row_places.own_name_at.Goals as goal

pub returns-else-name-at-ne-BACKSLASH-clause-exact : goal.returns-else-name-at-ne-BACKSLASH-clause-exact
returns-else-name-at-ne-BACKSLASH-clause-exact c =
    own_name_is c.args.name.now c.loop-at.at c.loop-at.invariant.within c.loop-at.invariant.none (λ some. ap is_backslash c.if-name-at-ne-BACKSLASH.false)

pub returns-after-loop-at-clause-exact : goal.returns-after-loop-at-clause-exact
returns-after-loop-at-clause-exact c =
    own_name_is c.args.name.now c.loop-at.at c.loop-at.invariant.within c.loop-at.invariant.none (λ some. absurd (omega (arith, some)))
