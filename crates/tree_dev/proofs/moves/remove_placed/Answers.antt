use Rattle.std.proofs.Common.{◌∙◌, ap}
use Rattle.tree_dev.specs.Moves.{without_all, paths_of}
use Rattle.std.proofs.Common.{drop, ◌+◌}
use Rattle.tree_dev.proofs.ManyEntries.{removed_step, removed_end}
use Rattle.tree_dev.proofs.moves.remove_placed.Goals as goal

pub loop-placed-preserved : goal.loop-placed-preserved
loop-placed-preserved c =
    ap (λ t. without_all t (paths_of (drop (c.loop-placed.placed-index + 1) c.args.entries.now))) c.remove.ensures
    ∙ removed_step c.args.entries.now c.loop-placed.placed-index c.placed-item.result c.loop-placed.files c.placed-item.is c.loop-placed-test.true ∙ c.loop-placed.invariant

pub returns : goal.returns
returns c = removed_end c.args.entries.now c.loop-placed.placed-index c.loop-placed.files c.loop-placed-test.false ∙ c.loop-placed.invariant
