use Rattle.stage_job.proofs.FileCounts.{leaf_files_way}
use Rattle.stage_job.proofs.WriteSteps.{none_writes, writes_same, writes_then}
use Rattle.std.proofs.Common.{ℕ, List, ◌++◌, Ok, ap, ◌∙◌}
use Rattle.std.proofs.lemmas.Result.{on_ok_weaker}
use Rattle.stage_job.specs.Checked.{leaf_checked}
use Rattle.stage_job.proofs.Below.{in_new_below}
use Rattle.stage_job.proofs.Exits.{answer_same, fault_answer, memory_exit, passed_exit, refuses_on}
use Rattle.stage_job.proofs.InnerSteps.{inner_put, leaf_apart_below, leaf_checks, new_way, part_is_free}
use Rattle.stage_job.proofs.StagingRules.{staging_on, told_after, told_before}
use Rattle.stage_job.proofs.part.stage_inner.Goals as goal

pub returns-in_err-make_above-clause-staging : goal.returns-in_err-make_above-clause-staging
returns-in_err-make_above-clause-staging g c = λ project in_new. passed_exit c.from_residual.result c.in_err-make_above.field-0.0 c.from_residual.ensures.1
    (c.in_err-make_above.ensures.staging project (new_way project c.args.to.now _ in_new))

pub returns-in_err-make_above-clause-checked : goal.returns-in_err-make_above-clause-checked
returns-in_err-make_above-clause-checked g c = λ t told. fault_answer _ _ c.from_residual.result c.in_err-make_above.field-0.0 c.from_residual.ensures.1
    (refuses_on c.in_err-make_above.field-0.0 (Ok 0) _ (λ e. absurd cc) (c.in_err-make_above.ensures.answer t told 0))

pub returns-in_err-target-clause-staging : goal.returns-in_err-target-clause-staging
returns-in_err-target-clause-staging g c = λ project in_new. memory_exit c.from_residual-in_err-target.result c.from_residual-in_err-target.ensures.1
    (c.in_ok-make_above.ensures.staging project (new_way project c.args.to.now _ in_new))

pub returns-in_err-to-clause-staging : goal.returns-in_err-to-clause-staging
returns-in_err-to-clause-staging g c = λ project in_new. memory_exit c.from_residual-in_err-to.result c.from_residual-in_err-to.ensures.1
    (c.in_ok-make_above.ensures.staging project (new_way project c.args.to.now _ in_new))

pub stage_leaf-requires : goal.stage_leaf-requires
stage_leaf-requires g c = record {
  apart = rw c.in_ok-to.ensures (leaf_apart_below c.args.part.now.from c.args.to.now c.args.part.now.below c.requires.apart);
  free = λ m told_m.
      let b = told_before (g.T.Tree.meaning c.args.tree.now).told c.make_above.ensures.tells m told_m in
      rw c.in_ok-to.ensures (part_is_free c.args.to.now c.args.part.now b.0 m c.requires.below (c.requires.way b.0 b.1) (c.requires.none b.0 b.1) (c.in_ok-make_above.ensures.made b.0 b.1 m told_m));
}

pub returns-clause-staging : goal.returns-clause-staging
returns-clause-staging g c = λ project in_new. staging_on
    (c.stage_leaf.ensures.staging project (rw c.in_ok-to.ensures (in_new_below project c.args.to.now c.args.part.now.below in_new)))
    (c.in_ok-make_above.ensures.staging project (new_way project c.args.to.now _ in_new))

pub returns-clause-checked : goal.returns-clause-checked
returns-clause-checked g c = λ t told.
    let m = told_after (g.T.Tree.meaning c.make_above.new.tree).told c.make_above.ensures.tells t told in
    answer_same _ _ c.stage_leaf.new.left.left c.stage_leaf.result
    (ap (λ (p : List (List ℕ)). leaf_checked m.0 p c.args.part.now.from c.args.left.now.left) c.in_ok-target.ensures
    ∙ leaf_checks c.args.part.now.from c.args.to.now (c.args.target.now ++ c.args.part.now.below) t m.0 c.args.left.now.left c.requires.apart (c.in_ok-make_above.ensures.made t told m.0 m.1))
    (c.stage_leaf.ensures.checked m.0 m.1)

pub returns-clause-staged : goal.returns-clause-staged
returns-clause-staged g c = on_ok_weaker c.stage_leaf.result (λ staged t told u now.
    let m = told_after (g.T.Tree.meaning c.make_above.new.tree).told c.make_above.ensures.tells t told in
    inner_put c.args.to.now c.args.part.now t m.0 u c.requires.apart (c.in_ok-make_above.ensures.made t told m.0 m.1) (rw c.in_ok-to.ensures at (staged m.0 m.1 u now)))
    c.stage_leaf.ensures.staged

-- ---- calls of write

pub returns-in_err-make_above-clause-writes : goal.returns-in_err-make_above-clause-writes
returns-in_err-make_above-clause-writes g c = λ t told. none_writes c.from_residual.result _ _ _ _ c.from_residual.ensures.1 c.make_above.ensures.writes

pub returns-in_err-target-clause-writes : goal.returns-in_err-target-clause-writes
returns-in_err-target-clause-writes g c = λ t told. none_writes c.from_residual-in_err-target.result _ _ _ _ c.from_residual-in_err-target.ensures.1 c.make_above.ensures.writes

pub returns-in_err-to-clause-writes : goal.returns-in_err-to-clause-writes
returns-in_err-to-clause-writes g c = λ t told. none_writes c.from_residual-in_err-to.result _ _ _ _ c.from_residual-in_err-to.ensures.1 c.make_above.ensures.writes

pub returns-clause-writes : goal.returns-clause-writes
returns-clause-writes g c = λ t told.
    let m = told_after (g.T.Tree.meaning c.make_above.new.tree).told c.make_above.ensures.tells t told in
    writes_same c.stage_leaf.result _ _ _ _ (leaf_files_way c.args.part.now.from c.args.to.now _ t m.0 c.requires.apart (c.in_ok-make_above.ensures.made t told m.0 m.1))
    (writes_then c.stage_leaf.result _ _ _ _ c.make_above.ensures.writes (c.stage_leaf.ensures.writes m.0 m.1))
