use Rattle.std.proofs.Common.{List, [], sym, subst, ◌∙◌, arith, refl}
use Rattle.std.proofs.lemmas.List.{take_all}
use Rattle.tree_dev.specs.Trees.{FileTree}
use Rattle.stage_job.specs.Staging.{PutsParents}
use Rattle.stage_job.specs.declared.job.Part.{Part}
use Rattle.stage_job.proofs.Exits.{fault_answer, passed_exit}
use Rattle.stage_job.proofs.StagingRules.{staging_on, staging_start, told_after, told_before}
use Rattle.stage_job.proofs.WholeSteps.{no_parents_yet, parents_more, target_can_make, target_way}
use Rattle.stage_job.proofs.whole.make_parents.Goals as goal
use Rattle.stage_job.proofs.Made.{same_some}

pub loop-part-init : goal.loop-part-init
loop-part-init g c = record {
  staging = staging_start;
  tells = refl;
  made = λ t told u now. subst (λ (v : FileTree). PutsParents c.args.project.now [] t v) (same_some t u (sym told ∙ now)) (no_parents_yet c.args.project.now t);
  writes = refl;
}

pub make_above-requires : goal.make_above-requires
make_above-requires g c = record {
  way = λ m told_m.
      let b = told_before (g.T.Tree.meaning c.args.tree.now).told c.loop-part.invariant.tells m told_m in
      target_way c.args.project.now c.args.parts.now c.loop-part.part-index c.part-item.result b.0 m c.requires.parts c.loop-part-test.true c.part-item.is (c.requires.project b.0 b.1) (c.requires.parents b.0 b.1)
      (c.loop-part.invariant.made b.0 b.1 m told_m);
}

pub returns-in_err-make_above-clause-answer : goal.returns-in_err-make_above-clause-answer
returns-in_err-make_above-clause-answer g c = λ t told left.
    let m = told_after (g.T.Tree.meaning c.loop-part.tree).told c.loop-part.invariant.tells t told in
    fault_answer _ _ c.from_residual.result c.in_err-make_above.field-0.0 c.from_residual.ensures.1 (c.in_err-make_above.ensures.answer m.0 m.1 left)

pub loop-part-preserved : goal.loop-part-preserved
loop-part-preserved g c =
    record {
      staging = staging_on
          (c.in_ok-make_above.ensures.staging c.args.project.now (target_can_make c.args.project.now c.args.parts.now c.loop-part.part-index c.part-item.result c.requires.parts c.loop-part-test.true c.part-item.is))
          c.loop-part.invariant.staging;
      tells = c.make_above.ensures.tells ∙ c.loop-part.invariant.tells;
      made = λ t told u now.
          let m = told_after (g.T.Tree.meaning c.loop-part.tree).told c.loop-part.invariant.tells t told in
          parents_more c.args.project.now c.args.parts.now c.loop-part.part-index c.part-item.result t m.0 c.requires.parts c.loop-part-test.true c.part-item.is (c.requires.project t told) (c.requires.parents t told)
          (c.loop-part.invariant.made t told m.0 m.1) u (c.in_ok-make_above.ensures.made m.0 m.1 u now);
      writes = c.make_above.ensures.writes ∙ c.loop-part.invariant.writes;
    }

pub returns-in_err-make_above-clause-staging : goal.returns-in_err-make_above-clause-staging
returns-in_err-make_above-clause-staging g c = passed_exit c.from_residual.result c.in_err-make_above.field-0.0 c.from_residual.ensures.1 (staging_on
    (c.in_err-make_above.ensures.staging c.args.project.now (target_can_make c.args.project.now c.args.parts.now c.loop-part.part-index c.part-item.result c.requires.parts c.loop-part-test.true c.part-item.is))
    c.loop-part.invariant.staging)

pub returns-clause-made : goal.returns-clause-made
returns-clause-made g c = λ t told u now.
    subst (λ (ps : List Part). PutsParents c.args.project.now ps t u) (take_all c.loop-part.part-index c.args.parts.now (omega (arith, c.loop-part-test.false))) (c.loop-part.invariant.made t told u now)
