use Rattle.std.proofs.Common.{ℕ, [], ◌∷◌, ◌+◌, length, length-append, ◌++◌, List, sym, ap, ◌∙◌, arith}
use Rattle.std.proofs.lemmas.List.{at_drop_all}
use Rattle.tree_dev.specs.Device.{only_read_on}
use Rattle.stage_job.specs.Checked.{job_checked, part_checked}
use Rattle.stage_job.specs.declared.job.Part.{Part}
use Rattle.stage_job.proofs.Exits.{fault_answer, refuses_on}
use Rattle.package_moves.proofs.StandingSteps.{checked_on, checked_stop, count_all, count_more, leaf_at, stand_all, stand_more}
use Rattle.package_moves.proofs.standing.standing_parts.Goals as goal

pub stands-requires : goal.stands-requires
stands-requires g c = record { leaf = leaf_at c.args.wanted.now c.loop-part.part-index c.part-item.result c.requires.wanted c.loop-part-test.true c.part-item.is }

pub returns-in_err-flag-clause-checked : goal.returns-in_err-flag-clause-checked
returns-in_err-flag-clause-checked g c = λ t told.
    fault_answer _ _ c.from_residual-in_err-flag.result c.in_err-flag.field-0.0 c.from_residual-in_err-flag.ensures.1
    (refuses_on c.in_err-flag.field-0.0 (part_checked t (c.args.project.now ++ c.part-item.result.target) c.part-item.result.from c.loop-part.counts.left.left) _
    (checked_stop c.args.project.now t c.args.wanted.now c.loop-part.part-index c.part-item.result c.loop-part-test.true c.part-item.is c.loop-part.counts.left.left _ c.in_err-flag.field-0.0 (c.loop-part.invariant.checked t told))
    (c.in_err-flag.ensures.checked t (c.loop-part.invariant.only.told ∙ told)))

pub loop-part-preserved : goal.loop-part-preserved
loop-part-preserved g c = record {
  only = only_read_on c.loop-part.invariant.only c.in_ok-flag.ensures.only_read;
  checked = λ t told.
      checked_on c.args.project.now t c.args.wanted.now c.loop-part.part-index c.part-item.result c.loop-part-test.true c.part-item.is c.loop-part.counts.left.left c.stands.new.counts.left.left _
      (c.loop-part.invariant.checked t told) (c.in_ok-flag.ensures.checked t (c.loop-part.invariant.only.told ∙ told));
  counted = λ t told.
      let walked = c.in_ok-flag.ensures.walked t (c.loop-part.invariant.only.told ∙ told) in
      count_more c.args.project.now t c.args.wanted.now c.loop-part.part-index c.part-item.result c.loop-part-test.true c.part-item.is c.args.counts.now c.loop-part.counts c.stands.new.counts
      (c.loop-part.invariant.counted t told) walked.counted;
  flags = λ t told none.
      rw c.in_ok-push.ensures.items
      (stand_more c.args.project.now t c.args.wanted.now c.loop-part.part-index c.part-item.result c.loop-part-test.true c.part-item.is c.loop-part.flags.items c.in_ok-flag.flag c.loop-part.counts c.stands.new.counts
      (c.loop-part.invariant.flags t told) (c.in_ok-flag.ensures.walked t (c.loop-part.invariant.only.told ∙ told)) none);
  count = ap length c.in_ok-push.ensures.items ∙ length-append c.loop-part.flags.items (c.in_ok-flag.flag ∷ []) ∙ ap (λ (n : ℕ). n + 1) c.loop-part.invariant.count;
  entries = omega (arith, c.stands.ensures.entries, c.loop-part.invariant.entries);
}

pub returns-clause-checked : goal.returns-clause-checked
unfolding job_checked
returns-clause-checked g c = λ t told.
    sym (c.loop-part.invariant.checked t told) ∙ at_drop_all (λ (ps : List Part). job_checked c.args.project.now t ps c.loop-part.counts.left.left) c.args.wanted.now c.loop-part.part-index c.loop-part-test.false

pub returns-clause-counted : goal.returns-clause-counted
returns-clause-counted g c = λ t told.
    count_all c.args.project.now t c.args.wanted.now c.loop-part.part-index c.args.counts.now c.loop-part.counts c.loop-part-test.false (c.loop-part.invariant.counted t told)

pub returns-clause-flags : goal.returns-clause-flags
returns-clause-flags g c = λ t told none.
    stand_all c.args.project.now t c.args.wanted.now c.loop-part.part-index c.loop-part.flags.items c.loop-part-test.false (c.loop-part.invariant.flags t told none)
