use Rattle.std.proofs.Common.{◌∙◌}
use Rattle.tree_dev.proofs.ManyEntries.{put_start, put_step}
use Rattle.tree_dev.proofs.moves.put_all.Goals as goal

pub loop-done-init : goal.loop-done-init
loop-done-init c = put_start c.args.files.now

pub loop-done-preserved : goal.loop-done-preserved
loop-done-preserved c =
    c.in_default.ensures.ok
    ∙ put_step c.args.entries.now c.loop-done.done c.index-entries-done.result c.args.files.now c.loop-done.files c.index-entries-done.is c.loop-done-test.true c.loop-done.invariant
