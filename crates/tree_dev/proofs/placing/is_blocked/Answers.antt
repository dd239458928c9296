use Rattle.std.proofs.Common.{sym, ap, ◌∙◌, arith}
use Rattle.std.specs.FinMap as map
use Rattle.tree_dev.specs.Memory.{blocks}
use Rattle.tree_dev.proofs.FoldersAbove.{goes_up, blocked_here, blocked_above}
use Rattle.tree_dev.proofs.placing.is_blocked.Goals as goal

pub returns-then-blocks : goal.returns-then-blocks
returns-then-blocks c =
    let goes = goes_up c.loop-level.folder c.leave.new.self c.leave.result c.leave.ensures.left (omega arith) in
    sym (blocked_here (λ folder. blocks (map.get c.args.files.now folder)) c.loop-level.folder c.leave.new.self goes
    (ap blocks (sym c.get.ensures) ∙ sym c.blocks-in-loop-level.ensures ∙ c.if-blocks.true))
    ∙ c.loop-level.invariant.rest

pub loop-level-preserved : goal.loop-level-preserved
loop-level-preserved c =
    let goes = goes_up c.loop-level.folder c.leave.new.self c.leave.result c.leave.ensures.left (omega arith) in
    record {
      rest = blocked_above (λ folder. blocks (map.get c.args.files.now folder)) c.loop-level.folder c.leave.new.self goes
          (ap blocks (sym c.get.ensures) ∙ sym c.blocks-in-loop-level.ensures ∙ c.if-blocks.false) ∙ c.loop-level.invariant.rest;
      len = omega (arith, goes.len);
    }
