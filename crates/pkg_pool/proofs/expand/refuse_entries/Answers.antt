use Rattle.std.proofs.Common.{◌∙◌}
use Rattle.std.proofs.lemmas.Result.{err_from_is_err_and}
use Rattle.tree_dev.specs.Device.{only_read_on}
use Rattle.pkg_pool.specs.Patterns.{entry_refused, none_is_there}
use Rattle.pkg_pool.proofs.Turns.{turn, stop, ended}
use Rattle.pkg_pool.proofs.expand.refuse_entries.Goals as goal

pub returns-in_err-refuse_entry-clause-told : goal.returns-in_err-refuse_entry-clause-told
returns-in_err-refuse_entry-clause-told g c = λ t told.
    let o = c.args.origin.now in
    let p = err_from_is_err_and c.from_residual.result c.from_residual.ensures.1 in
    rw (p.1, p.2) (stop (λ path passed. entry_refused t o path) c.args.paths.now c.loop-path.path-index c.path-item.result c.loop-path-test.true c.path-item.is tt
    c.in_err-refuse_entry.field-0.0 (none_is_there t o c.args.paths.now) (c.in_err-refuse_entry.ensures.told t (c.loop-path.invariant.only.told ∙ told)) (c.loop-path.invariant.told t told))

pub loop-path-preserved : goal.loop-path-preserved
loop-path-preserved g c = record {
  only = only_read_on c.loop-path.invariant.only c.in_ok-refuse_entry.ensures.only_read;
  told = λ t told.
      let o = c.args.origin.now in
      turn (λ path passed. entry_refused t o path) c.args.paths.now c.loop-path.path-index c.path-item.result c.loop-path-test.true c.path-item.is tt
      tt (none_is_there t o c.args.paths.now) (c.in_ok-refuse_entry.ensures.told t (c.loop-path.invariant.only.told ∙ told)) (c.loop-path.invariant.told t told);
}

pub returns-clause-told : goal.returns-clause-told
returns-clause-told g c = λ t told.
    let o = c.args.origin.now in
    ended (λ path passed. entry_refused t o path) c.args.paths.now c.loop-path.path-index c.loop-path-test.false tt (none_is_there t o c.args.paths.now) (c.loop-path.invariant.told t told)
