use Rattle.stage_job.proofs.FileCounts.{part_files_alike}
use Rattle.stage_job.specs.Written.{job_files, part_files}
use Rattle.stage_job.proofs.WriteSteps.{all_written, item_refused, item_written, refused_writes}
use Rattle.std.proofs.Common.{◌≡◌, ℕ, [], ◌∷◌, ◌++◌, codes, length, refl, sym, subst, ◌∙◌, arith}
use Rattle.path_name.specs.Decimals.{decimal_text}
use Rattle.tree_dev.specs.Trees.{FileTree}
use Rattle.stage_job.specs.Checked.{part_checked}
use Rattle.stage_job.specs.Staging.{PutsParts}
use Rattle.stage_job.proofs.Exits.{fault_answer, passed_exit, refuses_on}
use Rattle.stage_job.proofs.PartSteps.{part_apart}
use Rattle.stage_job.proofs.PartsLoop.{all_checked, part_checked_fault, part_checked_more, parts_more, place_free, parts_alike}
use Rattle.stage_job.proofs.StagingRules.{staging_on, staging_start, told_after, told_before}
use Rattle.stage_job.proofs.WholeSteps.{can_put_at, new_in_new, place_in_work}
use Rattle.stage_job.proofs.whole.stage_parts.Goals as goal
use Rattle.stage_job.proofs.Made.{same_some}

pub loop-number-init : goal.loop-number-init
loop-number-init g c = record {
  staging = staging_start;
  tells = refl;
  checked = λ t told. refl;
  put = λ t told u now. subst (λ (v : FileTree). PutsParts c.args.project.now c.args.parts.now 0 t v) (same_some t u (sym told ∙ now)) (c.requires.empty t told);
  writes = λ t told. refl;
  entries = omega arith;
}

pub stage_numbered-requires : goal.stage_numbered-requires
stage_numbered-requires g c =
    let can = can_put_at c.args.project.now c.args.parts.now c.loop-number.number c.index-parts-number.result c.requires.parts c.loop-number-test.true c.index-parts-number.is in
    record {
      apart = rw (c.requires.new, place_in_work c.args.project.now c.loop-number.number) (part_apart c.args.project.now (codes "new" ∷ decimal_text c.loop-number.number ∷ []) c.index-parts-number.result.from can);
      free = λ m told_m.
          let b = told_before (g.T.Tree.meaning c.args.tree.now).told c.loop-number.invariant.tells m told_m in
          rw c.requires.new (place_free c.args.project.now c.args.parts.now c.loop-number.number c.index-parts-number.result b.0 m (c.loop-number.invariant.put b.0 b.1 m told_m) (omega (arith, c.loop-number-test.true, c.loop-number.end-fits)) c.loop-number-test.true c.index-parts-number.is);
    }

pub returns-in_err-stage_numbered-clause-staging : goal.returns-in_err-stage_numbered-clause-staging
returns-in_err-stage_numbered-clause-staging g c = passed_exit c.from_residual.result c.in_err-stage_numbered.field-0.0 c.from_residual.ensures.1 (staging_on
    (c.in_err-stage_numbered.ensures.staging (rw c.requires.new (new_in_new c.args.project.now))) c.loop-number.invariant.staging)

pub returns-in_err-stage_numbered-clause-checked : goal.returns-in_err-stage_numbered-clause-checked
returns-in_err-stage_numbered-clause-checked g c = λ t told.
    let m = told_after (g.T.Tree.meaning c.loop-number.tree).told c.loop-number.invariant.tells t told in
    let can = can_put_at c.args.project.now c.args.parts.now c.loop-number.number c.index-parts-number.result c.requires.parts c.loop-number-test.true c.index-parts-number.is in
    fault_answer _ _ c.from_residual.result c.in_err-stage_numbered.field-0.0 c.from_residual.ensures.1
    (refuses_on c.in_err-stage_numbered.field-0.0 (part_checked m.0 (c.args.project.now ++ c.index-parts-number.result.target) c.index-parts-number.result.from c.loop-number.left.left) _
    (part_checked_fault c.args.project.now c.args.parts.now c.loop-number.number c.index-parts-number.result t m.0 (c.loop-number.invariant.put t told m.0 m.1) (omega (arith, c.loop-number-test.true, c.loop-number.end-fits)) c.loop-number-test.true c.index-parts-number.is
    c.loop-number.left.left _ can (c.loop-number.invariant.checked t told) c.in_err-stage_numbered.field-0.0) (c.in_err-stage_numbered.ensures.checked m.0 m.1))

pub loop-number-preserved : goal.loop-number-preserved
loop-number-preserved g c =
    let can = can_put_at c.args.project.now c.args.parts.now c.loop-number.number c.index-parts-number.result c.requires.parts c.loop-number-test.true c.index-parts-number.is in
    record {
      staging = staging_on (c.in_ok-stage_numbered.ensures.staging (rw c.requires.new (new_in_new c.args.project.now))) c.loop-number.invariant.staging;
      tells = c.stage_numbered.ensures.tells ∙ c.loop-number.invariant.tells;
      checked = λ t told.
          let m = told_after (g.T.Tree.meaning c.loop-number.tree).told c.loop-number.invariant.tells t told in
          part_checked_more c.args.project.now c.args.parts.now c.loop-number.number c.index-parts-number.result t m.0 (c.loop-number.invariant.put t told m.0 m.1) (omega (arith, c.loop-number-test.true, c.loop-number.end-fits)) c.loop-number-test.true c.index-parts-number.is
          c.loop-number.left.left _ can (c.loop-number.invariant.checked t told) c.stage_numbered.new.left.left (c.in_ok-stage_numbered.ensures.checked m.0 m.1);
      put = λ t told u now.
          let m = told_after (g.T.Tree.meaning c.loop-number.tree).told c.loop-number.invariant.tells t told in
          parts_more c.args.project.now c.args.parts.now c.loop-number.number c.index-parts-number.result t m.0 (c.loop-number.invariant.put t told m.0 m.1) (omega (arith, c.loop-number-test.true, c.loop-number.end-fits)) c.loop-number-test.true c.index-parts-number.is u can
          (rw c.requires.new at (c.in_ok-stage_numbered.ensures.staged m.0 m.1 u now));
      writes = λ t told.
          let m = told_after (g.T.Tree.meaning c.loop-number.tree).told c.loop-number.invariant.tells t told in
          item_written (λ part. part_files t part.from) c.args.parts.now c.loop-number.number c.index-parts-number.result
          (g.T.Tree.meaning c.args.tree.now).writes (g.T.Tree.meaning c.loop-number.tree).writes c.loop-number-test.true c.index-parts-number.is (c.loop-number.invariant.writes t told)
          (g.T.Tree.meaning c.stage_numbered.new.tree).writes _
          (part_files_alike c.args.project.now t m.0 (parts_alike c.args.project.now c.args.parts.now c.loop-number.number t m.0 (c.loop-number.invariant.put t told m.0 m.1)) c.index-parts-number.result.from can)
          (c.in_ok-stage_numbered.ensures.writes m.0 m.1);
      entries = omega (arith, c.stage_numbered.ensures.entries, c.loop-number.invariant.entries);
    }

pub returns-clause-checked : goal.returns-clause-checked
returns-clause-checked g c = λ t told.
    all_checked c.args.project.now t c.args.parts.now c.loop-number.number c.loop-number.left.left _ (omega (arith, c.loop-number-test.false)) (c.loop-number.invariant.checked t told)

-- at the end the index is the number of parts
pub returns-clause-staged : goal.returns-clause-staged
returns-clause-staged g c = λ t told u now.
    let all : c.loop-number.number ≡ length c.args.parts.now = omega (arith, c.loop-number-test.false) in
    subst (λ (n : ℕ). PutsParts c.args.project.now c.args.parts.now n t u) all (c.loop-number.invariant.put t told u now)

-- ---- calls of write

pub returns-in_err-stage_numbered-clause-writes : goal.returns-in_err-stage_numbered-clause-writes
unfolding job_files
returns-in_err-stage_numbered-clause-writes g c = λ t told.
    let m = told_after (g.T.Tree.meaning c.loop-number.tree).told c.loop-number.invariant.tells t told in
    let can = can_put_at c.args.project.now c.args.parts.now c.loop-number.number c.index-parts-number.result c.requires.parts c.loop-number-test.true c.index-parts-number.is in
    refused_writes c.from_residual.result _ _ _ _ c.from_residual.ensures.1
    (item_refused (λ part. part_files t part.from) c.args.parts.now c.loop-number.number c.index-parts-number.result
    (g.T.Tree.meaning c.args.tree.now).writes (g.T.Tree.meaning c.loop-number.tree).writes c.loop-number-test.true c.index-parts-number.is (c.loop-number.invariant.writes t told)
    (g.T.Tree.meaning c.stage_numbered.new.tree).writes _
    (part_files_alike c.args.project.now t m.0 (parts_alike c.args.project.now c.args.parts.now c.loop-number.number t m.0 (c.loop-number.invariant.put t told m.0 m.1)) c.index-parts-number.result.from can)
    (c.in_err-stage_numbered.ensures.writes m.0 m.1))

pub returns-clause-writes : goal.returns-clause-writes
unfolding job_files
returns-clause-writes g c = λ t told.
    all_written (λ part. part_files t part.from) c.args.parts.now c.loop-number.number _ _ (omega (arith, c.loop-number-test.false)) (c.loop-number.invariant.writes t told)
