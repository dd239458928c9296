use Rattle.stage_job.proofs.FileCounts.{job_files_alike}
use Rattle.stage_job.proofs.WriteSteps.{files_all, files_no_more, none_writes, refused_writes}
use Rattle.std.proofs.Common.{◌≡◌, Ok, sym, subst, ◌∙◌}
use Rattle.tree_dev.specs.Trees.{FileTree}
use Rattle.tree_dev.specs.Steady.{EachImage}
use Rattle.stage_job.specs.Staged.{IsStagedJob}
use Rattle.stage_job.proofs.Exits.{device_exit, fault_answer, passed_exit, refuses_on}
use Rattle.stage_job.proofs.PartSteps.{job_checks}
use Rattle.stage_job.proofs.StagingRules.{fine, staging_barrier, staging_on, told_after, told_before}
use Rattle.stage_job.proofs.WholeSteps.{job_staged, no_parts_yet, one_image, parents_there, project_there, sources_alike}
use Rattle.stage_job.proofs.whole.stage_whole.Goals as goal
use Rattle.stage_job.proofs.Made.{same_some}

pub stage_parts-requires : goal.stage_parts-requires
stage_parts-requires g c = record {
  new = c.in_ok-new.ensures.new;
  parts = c.requires.parts;
  empty = λ v told_v.
      let b = told_before (g.T.Tree.meaning c.args.tree.now).told c.make_work_folders.ensures.tells v told_v in
      let made = c.in_ok-new.ensures.made b.0 b.1 v told_v in
      no_parts_yet c.args.project.now _ b.0 made.between v made.new made.old;
}

pub make_parents-requires : goal.make_parents-requires
make_parents-requires g c = record {
  parts = c.requires.parts;
  project = λ w told_w.
      let v = told_before (g.T.Tree.meaning c.make_work_folders.new.tree).told c.stage_parts.ensures.tells w told_w in
      let b = told_before (g.T.Tree.meaning c.args.tree.now).told c.make_work_folders.ensures.tells v.0 v.1 in
      let made = c.in_ok-new.ensures.made b.0 b.1 v.0 v.1 in
      project_there c.args.project.now _ b.0 made.between v.0 w w c.requires.parts (c.requires.claimed b.0 b.1) (g.met.T.Tree.tells_trees c.args.tree.now b.0 b.1) made.new made.old
      (c.in_ok-stage_parts.ensures.staged v.0 v.1 w told_w);
  parents = λ w told_w.
      let v = told_before (g.T.Tree.meaning c.make_work_folders.new.tree).told c.stage_parts.ensures.tells w told_w in
      let b = told_before (g.T.Tree.meaning c.args.tree.now).told c.make_work_folders.ensures.tells v.0 v.1 in
      let made = c.in_ok-new.ensures.made b.0 b.1 v.0 v.1 in
      parents_there c.args.project.now _ b.0 made.between v.0 w w c.requires.parts (c.requires.claimed b.0 b.1) (g.met.T.Tree.tells_trees c.args.tree.now b.0 b.1) made.new made.old
      (c.in_ok-stage_parts.ensures.staged v.0 v.1 w told_w) (c.requires.parents b.0 b.1);
}

pub returns-in_err-barrier-clause-staging : goal.returns-in_err-barrier-clause-staging
returns-in_err-barrier-clause-staging g c = device_exit c.from_residual-in_err-barrier.result c.from_residual-in_err-barrier.ensures.1 (staging_on
    (staging_barrier (λ f. c.in_err-barrier.ensures.cause) c.barrier.ensures.moments) (staging_on c.in_ok-make_parents.ensures.staging
    (staging_on c.in_ok-stage_parts.ensures.staging c.in_ok-new.ensures.staging)))

pub returns-clause-staging : goal.returns-clause-staging
returns-clause-staging g c = staging_on (staging_barrier (λ f. fine f) c.barrier.ensures.moments) (staging_on c.in_ok-make_parents.ensures.staging
    (staging_on c.in_ok-stage_parts.ensures.staging c.in_ok-new.ensures.staging))

pub returns-clause-exact : goal.returns-clause-exact
returns-clause-exact g c = λ t told.
    let v = told_after (g.T.Tree.meaning c.make_work_folders.new.tree).told c.make_work_folders.ensures.tells t told in
    let made = c.in_ok-new.ensures.made t told v.0 v.1 in
    sym (job_checks c.args.project.now t v.0 (sources_alike c.args.project.now t made.between v.0 made.new made.old) _ c.args.left.now.left c.requires.parts) ∙ c.in_ok-stage_parts.ensures.checked v.0 v.1

pub returns-clause-staged : goal.returns-clause-staged
returns-clause-staged g c = λ t told y now.
    let meaning = g.T.Tree.meaning in
    let v = told_after (g.T.Tree.meaning c.make_work_folders.new.tree).told c.make_work_folders.ensures.tells t told in
    let w = told_after (g.T.Tree.meaning c.stage_parts.new.tree).told c.stage_parts.ensures.tells v.0 v.1 in
    let x = told_after (g.T.Tree.meaning c.make_parents.new.tree).told c.make_parents.ensures.tells w.0 w.1 in
    let made = c.in_ok-new.ensures.made t told v.0 v.1 in
    let settled = c.in_ok-barrier.ensures.done x.0 x.1 in
    let same = same_some y x.0 (sym now ∙ settled.told ∙ x.1) in
    let checked = sym (job_checks c.args.project.now t v.0 (sources_alike c.args.project.now t made.between v.0 made.new made.old) _ c.args.left.now.left c.requires.parts) ∙ c.in_ok-stage_parts.ensures.checked v.0 v.1 in
    subst (λ (w : FileTree). IsStagedJob c.args.project.now c.args.parts.now t w × EachImage (meaning c.barrier.new.self) (λ left. left ≡ w)) (sym same) (
      job_staged c.args.project.now _ t made.between v.0 w.0 x.0 c.requires.parts (c.requires.claimed t told) (g.met.T.Tree.tells_trees c.args.tree.now t told) made.new made.old
          (c.in_ok-stage_parts.ensures.staged v.0 v.1 w.0 w.1) (c.in_ok-make_parents.ensures.made w.0 w.1 x.0 x.1) c.args.left.now.left _ checked,
      one_image (meaning c.make_parents.new.tree) (meaning c.barrier.new.self) x.0 settled x.1 (g.met.T.Tree.tells_its_disk c.make_parents.new.tree x.0 x.1),
    )

-- ---- exits before

pub returns-in_err-new-clause-staging : goal.returns-in_err-new-clause-staging
returns-in_err-new-clause-staging g c = passed_exit c.from_residual.result c.in_err-new.field-0.0 c.from_residual.ensures.1 c.in_err-new.ensures.staging

pub returns-in_err-new-clause-exact : goal.returns-in_err-new-clause-exact
returns-in_err-new-clause-exact g c = λ t told.
    fault_answer _ _ c.from_residual.result c.in_err-new.field-0.0 c.from_residual.ensures.1 (refuses_on c.in_err-new.field-0.0 (Ok 0) _ (λ e. absurd cc) (c.in_err-new.ensures.answer t told 0))

pub returns-in_err-stage_parts-clause-staging : goal.returns-in_err-stage_parts-clause-staging
returns-in_err-stage_parts-clause-staging g c =
    passed_exit c.from_residual-in_err-stage_parts.result c.in_err-stage_parts.field-0.0 c.from_residual-in_err-stage_parts.ensures.1
    (staging_on c.in_err-stage_parts.ensures.staging c.in_ok-new.ensures.staging)

-- what is wanted of the job over the tree with both folders is what is wanted over the tree before
pub returns-in_err-stage_parts-clause-exact : goal.returns-in_err-stage_parts-clause-exact
returns-in_err-stage_parts-clause-exact g c = λ t told.
    let v = told_after (g.T.Tree.meaning c.make_work_folders.new.tree).told c.make_work_folders.ensures.tells t told in
    let made = c.in_ok-new.ensures.made t told v.0 v.1 in
    let same = job_checks c.args.project.now t v.0 (sources_alike c.args.project.now t made.between v.0 made.new made.old) _ c.args.left.now.left c.requires.parts in
    fault_answer _ _ c.from_residual-in_err-stage_parts.result c.in_err-stage_parts.field-0.0 c.from_residual-in_err-stage_parts.ensures.1
    (refuses_on c.in_err-stage_parts.field-0.0 _ _ (λ e. sym same ∙ e) (c.in_err-stage_parts.ensures.checked v.0 v.1))

pub returns-in_err-make_parents-clause-staging : goal.returns-in_err-make_parents-clause-staging
returns-in_err-make_parents-clause-staging g c =
    passed_exit c.from_residual-in_err-make_parents.result c.in_err-make_parents.field-0.0 c.from_residual-in_err-make_parents.ensures.1
    (staging_on c.in_err-make_parents.ensures.staging (staging_on c.in_ok-stage_parts.ensures.staging c.in_ok-new.ensures.staging))

-- a folder above a target is refused by no tree
pub returns-in_err-make_parents-clause-exact : goal.returns-in_err-make_parents-clause-exact
returns-in_err-make_parents-clause-exact g c = λ t told.
    let v = told_after (g.T.Tree.meaning c.make_work_folders.new.tree).told c.make_work_folders.ensures.tells t told in
    let w = told_after (g.T.Tree.meaning c.stage_parts.new.tree).told c.stage_parts.ensures.tells v.0 v.1 in
    fault_answer _ _ c.from_residual-in_err-make_parents.result c.in_err-make_parents.field-0.0 c.from_residual-in_err-make_parents.ensures.1
    (refuses_on c.in_err-make_parents.field-0.0 (Ok 0) _ (λ e. absurd cc) (c.in_err-make_parents.ensures.answer w.0 w.1 0))

-- ---- calls of write

pub returns-in_err-new-clause-writes : goal.returns-in_err-new-clause-writes
returns-in_err-new-clause-writes g c = λ t told. none_writes c.from_residual.result _ _ _ _ c.from_residual.ensures.1 c.make_work_folders.ensures.writes

pub returns-in_err-stage_parts-clause-writes : goal.returns-in_err-stage_parts-clause-writes
returns-in_err-stage_parts-clause-writes g c = λ t told.
    let v = told_after (g.T.Tree.meaning c.make_work_folders.new.tree).told c.make_work_folders.ensures.tells t told in
    let made = c.in_ok-new.ensures.made t told v.0 v.1 in
    let same = job_files_alike c.args.project.now t v.0 (sources_alike c.args.project.now t made.between v.0 made.new made.old) _ c.requires.parts in
    refused_writes c.from_residual-in_err-stage_parts.result _ _ _ _ c.from_residual-in_err-stage_parts.ensures.1
    (files_no_more _ _ _ _ _ same c.make_work_folders.ensures.writes (c.in_err-stage_parts.ensures.writes v.0 v.1))

pub returns-in_err-make_parents-clause-writes : goal.returns-in_err-make_parents-clause-writes
returns-in_err-make_parents-clause-writes g c = λ t told.
    let v = told_after (g.T.Tree.meaning c.make_work_folders.new.tree).told c.make_work_folders.ensures.tells t told in
    let made = c.in_ok-new.ensures.made t told v.0 v.1 in
    let same = job_files_alike c.args.project.now t v.0 (sources_alike c.args.project.now t made.between v.0 made.new made.old) _ c.requires.parts in
    refused_writes c.from_residual-in_err-make_parents.result _ _ _ _ c.from_residual-in_err-make_parents.ensures.1
    (files_all _ _ _ _ _ _ same c.make_work_folders.ensures.writes (c.in_ok-stage_parts.ensures.writes v.0 v.1) c.make_parents.ensures.writes).1

pub returns-in_err-barrier-clause-writes : goal.returns-in_err-barrier-clause-writes
returns-in_err-barrier-clause-writes g c = λ t told.
    let v = told_after (g.T.Tree.meaning c.make_work_folders.new.tree).told c.make_work_folders.ensures.tells t told in
    let made = c.in_ok-new.ensures.made t told v.0 v.1 in
    let same = job_files_alike c.args.project.now t v.0 (sources_alike c.args.project.now t made.between v.0 made.new made.old) _ c.requires.parts in
    refused_writes c.from_residual-in_err-barrier.result _ _ _ _ c.from_residual-in_err-barrier.ensures.1
    (files_all _ _ _ _ _ _ same c.make_work_folders.ensures.writes (c.in_ok-stage_parts.ensures.writes v.0 v.1) (c.barrier.ensures.counts ∙ c.make_parents.ensures.writes)).1

pub returns-clause-writes : goal.returns-clause-writes
returns-clause-writes g c = λ t told.
    let v = told_after (g.T.Tree.meaning c.make_work_folders.new.tree).told c.make_work_folders.ensures.tells t told in
    let made = c.in_ok-new.ensures.made t told v.0 v.1 in
    let same = job_files_alike c.args.project.now t v.0 (sources_alike c.args.project.now t made.between v.0 made.new made.old) _ c.requires.parts in
    (files_all _ _ _ _ _ _ same c.make_work_folders.ensures.writes (c.in_ok-stage_parts.ensures.writes v.0 v.1) (c.barrier.ensures.counts ∙ c.make_parents.ensures.writes)).0
