use Rattle.std.proofs.Common.{◌≡◌, ℕ, List, [], ◌∷◌, ◌++◌, codes, ap, ◌∙◌}
use Rattle.stage_job.specs.Places.{new_path, old_path}
use Rattle.stage_job.proofs.Exits.{fault_answer, memory_exit, passed_exit}
use Rattle.stage_job.proofs.StagingRules.{staging_on, staging_start, told_after, told_before}
use Rattle.stage_job.proofs.WholeSteps.{new_is_free, new_segment, new_staged, old_is_free, old_segment, old_staged, two_steps, work_segment}
use Rattle.stage_job.proofs.whole.make_work_folders.Goals as goal
use Rattle.stage_job.proofs.whole.make_work_folders.Goals.{In_ok-old}

-- the two paths
new_is : (g : _) (c : In_ok-old g) → c.in_ok-new.new ≡ new_path c.args.project.now
new_is g c = c.in_ok-new.ensures ∙ ap (λ (p : List (List ℕ)). p ++ codes "new" ∷ []) c.in_ok-work.ensures ∙ two_steps c.args.project.now (codes "new")

old_is : (g : _) (c : In_ok-old g) → c.in_ok-old.old ≡ old_path c.args.project.now
old_is g c = c.in_ok-old.ensures ∙ ap (λ (p : List (List ℕ)). p ++ codes "old" ∷ []) c.in_ok-work.ensures ∙ two_steps c.args.project.now (codes "old")

pub make_folder-requires : goal.make_folder-requires
make_folder-requires g c = record { free = λ t told. rw (new_is g (goal.at.make_folder-requires g c).In_ok-old) (new_is_free c.args.project.now t (c.requires.claimed t told)) }

pub make_folder-requires-2 : goal.make_folder-requires-2
make_folder-requires-2 g c = record {
  free = λ u told_u.
      let b = told_before (g.T.Tree.meaning c.args.tree.now).told c.make_folder.ensures.tells u told_u in
      rw (old_is g (goal.at.make_folder-requires-2 g c).In_ok-old)
      (old_is_free c.args.project.now b.0 u (c.requires.claimed b.0 b.1) (rw (new_is g (goal.at.make_folder-requires-2 g c).In_ok-old) at (c.in_ok-make_folder.ensures.made b.0 b.1 u told_u)));
}

pub returns-clause-new : goal.returns-clause-new
returns-clause-new g c = new_is g (goal.at.returns-clause-new g c).In_ok-old

pub returns-clause-staging : goal.returns-clause-staging
returns-clause-staging g c =
    let place = (goal.at.returns-clause-staging g c).In_ok-old in
    staging_on (c.in_ok-make_folder-2.ensures.staging c.args.project.now (rw (old_is g place) (old_staged c.args.project.now)))
    (c.in_ok-make_folder.ensures.staging c.args.project.now (rw (new_is g place) (new_staged c.args.project.now)))

pub returns-clause-made : goal.returns-clause-made
returns-clause-made g c = λ t told v now.
    let place = (goal.at.returns-clause-made g c).In_ok-old in
    let u = told_after (g.T.Tree.meaning c.make_folder.new.tree).told c.make_folder.ensures.tells t told in
    record {
      between = u.0;
      new = rw (new_is g place) at (c.in_ok-make_folder.ensures.made t told u.0 u.1);
      old = rw (old_is g place) at (c.in_ok-make_folder-2.ensures.made u.0 u.1 v now);
    }

pub returns-in_err-work-clause-staging : goal.returns-in_err-work-clause-staging
returns-in_err-work-clause-staging g c = memory_exit c.from_residual.result c.from_residual.ensures.1 (staging_start)

pub returns-in_err-new-clause-staging : goal.returns-in_err-new-clause-staging
returns-in_err-new-clause-staging g c = memory_exit c.from_residual-in_err-new.result c.from_residual-in_err-new.ensures.1 (staging_start)

pub returns-in_err-old-clause-staging : goal.returns-in_err-old-clause-staging
returns-in_err-old-clause-staging g c = memory_exit c.from_residual-in_err-old.result c.from_residual-in_err-old.ensures.1 (staging_start)

pub returns-in_err-make_folder-clause-staging : goal.returns-in_err-make_folder-clause-staging
returns-in_err-make_folder-clause-staging g c =
    let place = (goal.at.returns-in_err-make_folder-clause-staging g c).In_ok-old in
    passed_exit c.from_residual-in_err-make_folder.result c.in_err-make_folder.field-0.0 c.from_residual-in_err-make_folder.ensures.1
    (c.in_err-make_folder.ensures.staging c.args.project.now (rw (new_is g place) (new_staged c.args.project.now)))

pub returns-in_err-make_folder-2-clause-staging : goal.returns-in_err-make_folder-2-clause-staging
returns-in_err-make_folder-2-clause-staging g c =
    let place = (goal.at.returns-in_err-make_folder-2-clause-staging g c).In_ok-old in
    passed_exit c.from_residual-in_err-make_folder-2.result c.in_err-make_folder-2.field-0.0 c.from_residual-in_err-make_folder-2.ensures.1 (staging_on
    (c.in_err-make_folder-2.ensures.staging c.args.project.now (rw (old_is g place) (old_staged c.args.project.now)))
    (c.in_ok-make_folder.ensures.staging c.args.project.now (rw (new_is g place) (new_staged c.args.project.now))))

pub returns-in_err-make_folder-2-clause-answer : goal.returns-in_err-make_folder-2-clause-answer
returns-in_err-make_folder-2-clause-answer g c = λ t told left.
    let u = told_after (g.T.Tree.meaning c.make_folder.new.tree).told c.make_folder.ensures.tells t told in
    fault_answer _ _ c.from_residual-in_err-make_folder-2.result c.in_err-make_folder-2.field-0.0 c.from_residual-in_err-make_folder-2.ensures.1 (c.in_err-make_folder-2.ensures.answer u.0 u.1 left)

-- ---- names of `.install`

pub child-requires : goal.child-requires
child-requires g c = work_segment

pub child-requires-2 : goal.child-requires-2
child-requires-2 g c = new_segment

pub child-requires-3 : goal.child-requires-3
child-requires-3 g c = old_segment
