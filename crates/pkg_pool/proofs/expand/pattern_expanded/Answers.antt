use Rattle.std.proofs.Common.{◌∙◌, arith}
use Rattle.std.proofs.lemmas.Result.{err_from_is_err_and}
use Rattle.tree_dev.specs.Device.{only_read_on}
use Rattle.pkg_pool.specs.Patterns.{Found, segment_expanded, pattern_expanded}
use Rattle.pkg_pool.proofs.Turns.{turn, stop, ended}
use Rattle.pkg_pool.proofs.expand.pattern_expanded.Goals as goal

pub returns-in_err-folders-clause-told : goal.returns-in_err-folders-clause-told
returns-in_err-folders-clause-told g c = λ t told.
    let o = c.args.origin.now in
    let start : Found = record { paths = c.args.folders.items; left = c.args.left.now.left } in
    let so_far : Found = record { paths = c.loop-segment.folders.items; left = c.loop-segment.left.left } in
    let p = err_from_is_err_and c.from_residual.result c.from_residual.ensures.1 in
    rw (p.1, p.2) (stop (segment_expanded t o) c.args.pattern.now c.loop-segment.segment-index c.segment-item.result c.loop-segment-test.true c.segment-item.is so_far
    c.in_err-folders.field-0.0 (pattern_expanded t o c.args.pattern.now start)
    (rw (c.as_slice.ensures, c.as_slice-in-loop-segment.ensures.value) at (c.in_err-folders.ensures.told t (c.loop-segment.invariant.only.told ∙ told))) (c.loop-segment.invariant.told t told))

pub loop-segment-preserved : goal.loop-segment-preserved
loop-segment-preserved g c = record {
  only = only_read_on c.loop-segment.invariant.only c.in_ok-folders.ensures.only_read;
  falls = omega (arith, c.in_ok-folders.ensures.falls, c.loop-segment.invariant.falls);
  told = λ t told.
      let o = c.args.origin.now in
      let start : Found = record { paths = c.args.folders.items; left = c.args.left.now.left } in
      let so_far : Found = record { paths = c.loop-segment.folders.items; left = c.loop-segment.left.left } in
      turn (segment_expanded t o) c.args.pattern.now c.loop-segment.segment-index c.segment-item.result c.loop-segment-test.true c.segment-item.is so_far
      (record { paths = c.in_ok-folders.folders.items; left = c.segment_expanded.new.left.left }) (pattern_expanded t o c.args.pattern.now start)
      (rw (c.as_slice.ensures, c.as_slice-in-loop-segment.ensures.value) at (c.in_ok-folders.ensures.told t (c.loop-segment.invariant.only.told ∙ told))) (c.loop-segment.invariant.told t told);
}

pub returns-clause-told : goal.returns-clause-told
returns-clause-told g c = λ t told.
    let o = c.args.origin.now in
    let start : Found = record { paths = c.args.folders.items; left = c.args.left.now.left } in
    ended (segment_expanded t o) c.args.pattern.now c.loop-segment.segment-index c.loop-segment-test.false (record { paths = c.loop-segment.folders.items; left = c.loop-segment.left.left })
    (pattern_expanded t o c.args.pattern.now start) (c.loop-segment.invariant.told t told)
