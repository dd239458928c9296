use Rattle.std.proofs.Common.{[], refl, ◌∙◌, arith}
use Rattle.tree_dev.specs.Device.{only_read_on, only_read_refl}
use Rattle.class_walk.specs.Walks.{class_scan}
use Rattle.class_walk.proofs.NeverVanishes.{answer_stands, scan_stands}
use Rattle.class_walk.proofs.WalkedJobs.{fault_answers, next_job, no_jobs_left, refused_job}
use Rattle.class_walk.proofs.jobs.walk.Goals as goal

pub loop-number-init : goal.loop-number-init
unfolding class_scan
loop-number-init g c = record {
  only = only_read_refl (g.T.Tree.meaning c.args.tree.now);
  goes = λ tree told. (record { found = []; left = c.args.left.now.left }, (rw c.new.ensures.items tt, refl), refl);
  entries = omega arith;
}

pub loop-number-preserved : goal.loop-number-preserved
loop-number-preserved g c = record {
  only = only_read_on c.loop-number.invariant.only c.in_ok-walk_job.ensures.only_read;
  goes = λ tree told.
      let before = c.loop-number.invariant.goes tree told in
      let later = c.loop-number.invariant.only.told ∙ told in
      let step = c.in_ok-walk_job.ensures.exact tree later before.0 before.1 in
      (step.0, step.2, before.2 ∙ next_job tree c.args.exclude.now c.args.jobs.now c.loop-number.number c.index-jobs-number.result before.0 c.loop-number-test.true c.index-jobs-number.is ∙ rw step.1 refl);
  entries = omega (arith, c.loop-number.invariant.entries, c.in_ok-walk_job.ensures.entries);
}

pub returns-in_err-walk_job-clause-exact : goal.returns-in_err-walk_job-clause-exact
returns-in_err-walk_job-clause-exact g c = λ tree told.
    let before = c.loop-number.invariant.goes tree told in
    let later = c.loop-number.invariant.only.told ∙ told in
    fault_answers _ _ c.from_residual.result c.in_err-walk_job.field-0.0 c.from_residual.ensures.1
    (refused_job tree c.args.exclude.now c.args.jobs.now c.in_err-walk_job.field-0.0 c.loop-number.number c.index-jobs-number.result before.0 _ c.loop-number-test.true c.index-jobs-number.is before.2
    (c.in_err-walk_job.ensures.exact tree later before.0 before.1))

pub returns-clause-exact : goal.returns-clause-exact
returns-clause-exact g c = λ tree told.
    let before = c.loop-number.invariant.goes tree told in
    (before.0, before.2 ∙ no_jobs_left tree c.args.exclude.now c.args.jobs.now c.loop-number.number before.0 (omega (arith, c.loop-number-test.false, c.loop-number.auto.number-end)), before.1)

pub returns-in_err-walk_job-clause-never_vanished : goal.returns-in_err-walk_job-clause-never_vanished
returns-in_err-walk_job-clause-never_vanished g c = λ tree told.
    answer_stands _ _ _ (scan_stands tree c.args.jobs.now c.args.exclude.now c.args.left.now.left) (returns-in_err-walk_job-clause-exact g c tree told)
