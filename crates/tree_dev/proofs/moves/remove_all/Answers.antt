use Rattle.std.proofs.Common.{◌∙◌, ap, drop, ◌+◌}
use Rattle.tree_dev.specs.Moves.{without_all}
use Rattle.tree_dev.proofs.ManyEntries.{path_step, path_end}
use Rattle.tree_dev.proofs.moves.remove_all.Goals as goal

pub loop-path-preserved : goal.loop-path-preserved
loop-path-preserved c =
    ap (λ t. without_all t (drop (c.loop-path.path-index + 1) c.args.paths.now)) c.remove.ensures
    ∙ path_step c.args.paths.now c.loop-path.path-index c.path-item.result c.loop-path.files c.path-item.is c.loop-path-test.true ∙ c.loop-path.invariant

pub returns : goal.returns
returns c = path_end c.args.paths.now c.loop-path.path-index c.loop-path.files c.loop-path-test.false ∙ c.loop-path.invariant
