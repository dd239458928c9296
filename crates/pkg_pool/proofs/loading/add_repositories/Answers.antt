use Rattle.std.proofs.Common.{◌∙◌, arith}
use Rattle.std.proofs.lemmas.Result.{err_from_is_err_and}
use Rattle.tree_dev.specs.Device.{only_read_on}
use Rattle.pkg_pool.specs.Pools.{Progress, gathering_of, with_numbered, with_repositories}
use Rattle.pkg_pool.proofs.Turns.{left_at, numbered_turn, numbered_stop, numbered_ended}
use Rattle.pkg_pool.proofs.loading.add_repositories.Goals as goal

pub returns-in_err-add_repository-clause-told : goal.returns-in_err-add_repository-clause-told
returns-in_err-add_repository-clause-told g c = λ t told.
    let project = c.args.project.now in
    let start : Progress = record { gathering = gathering_of c.args.gathered.now; left = c.args.left.now.left } in
    let so_far : Progress = record { gathering = gathering_of c.loop-at.gathered; left = c.loop-at.left.left } in
    let p = err_from_is_err_and c.from_residual-in_err-add_repository.result c.from_residual-in_err-add_repository.ensures.1 in
    rw (p.1, p.2) (numbered_stop (with_numbered t project) c.args.repositories.now c.loop-at.at c.index-repositories-at.result c.loop-at-test.true c.index-repositories-at.is so_far
    c.in_err-add_repository.field-0.0 (with_repositories t project c.args.repositories.now start)
    (rw c.in_ok-number.ensures.number at (c.in_err-add_repository.ensures.told t (c.loop-at.invariant.only.told ∙ told))) (c.loop-at.invariant.told t told))

pub loop-at-preserved : goal.loop-at-preserved
loop-at-preserved g c = record {
  only = only_read_on c.loop-at.invariant.only c.in_ok-add_repository.ensures.only_read;
  falls = omega (arith, c.in_ok-add_repository.ensures.falls, c.loop-at.invariant.falls);
  sound = c.in_ok-add_repository.ensures.sound;
  paths = (rw (left_at c.args.repositories.now c.loop-at.at c.index-repositories-at.result c.loop-at-test.true c.index-repositories-at.is) at c.loop-at.invariant.paths).1;
  told = λ t told.
      let project = c.args.project.now in
      let start : Progress = record { gathering = gathering_of c.args.gathered.now; left = c.args.left.now.left } in
      let so_far : Progress = record { gathering = gathering_of c.loop-at.gathered; left = c.loop-at.left.left } in
      numbered_turn (with_numbered t project) c.args.repositories.now c.loop-at.at c.index-repositories-at.result c.loop-at-test.true c.index-repositories-at.is so_far
      (record { gathering = gathering_of c.add_repository.new.gathered; left = c.add_repository.new.left.left }) (with_repositories t project c.args.repositories.now start)
      (rw c.in_ok-number.ensures.number at (c.in_ok-add_repository.ensures.told t (c.loop-at.invariant.only.told ∙ told))) (c.loop-at.invariant.told t told);
}

pub returns-clause-told : goal.returns-clause-told
returns-clause-told g c = λ t told.
    let project = c.args.project.now in
    let start : Progress = record { gathering = gathering_of c.args.gathered.now; left = c.args.left.now.left } in
    numbered_ended (with_numbered t project) c.args.repositories.now c.loop-at.at c.loop-at-test.false (record { gathering = gathering_of c.loop-at.gathered; left = c.loop-at.left.left })
    (with_repositories t project c.args.repositories.now start) (c.loop-at.invariant.told t told)
