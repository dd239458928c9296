use Rattle.std.proofs.Common.{◌∙◌}
use Rattle.std.specs.Option.{option_copied}
use Rattle.tree_dev.proofs.Remaking.{made_more, made_none, place_so_far, tree_so_far}
use Rattle.tree_dev.proofs.remade.apply_all.Goals as goal

pub loop-change-init : goal.loop-change-init
loop-change-init c = made_none c.args.files.now (option_copied c.args.torn)

pub apply_torn-requires-clause-tree : goal.apply_torn-requires-clause-tree
apply_torn-requires-clause-tree c = tree_so_far c.args.files.now c.args.changes.now (option_copied c.args.torn) c.requires c.loop-change.change-index c.change-item.result c.change-item.is c.loop-change-test.true c.loop-change.files c.loop-change.invariant

pub apply_torn-requires-clause-place : goal.apply_torn-requires-clause-place
apply_torn-requires-clause-place c = place_so_far c.args.files.now c.args.changes.now (option_copied c.args.torn) c.requires c.loop-change.change-index c.change-item.result c.change-item.is c.loop-change-test.true c.loop-change.files c.loop-change.invariant

pub loop-change-preserved : goal.loop-change-preserved
loop-change-preserved c =
    c.in_ok-apply_torn.ensures
    ∙ made_more c.args.files.now c.args.changes.now (option_copied c.args.torn) c.requires c.loop-change.change-index c.change-item.result c.change-item.is c.loop-change-test.true c.loop-change.files c.loop-change.invariant
