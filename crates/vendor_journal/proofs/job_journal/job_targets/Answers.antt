use Rattle.std.proofs.Common.{◌++◌, ◌∷◌, [], ap, ◌∙◌, arith}
use Rattle.std.proofs.lemmas.List.{take_all}
use Rattle.std.proofs.lemmas.Option.{slice_get_within}
use Rattle.vendor_journal.specs.JobTargets.{targets_of}
use Rattle.vendor_journal.proofs.JobMoves.{one_path_more, one_target_more}
use Rattle.vendor_journal.proofs.job_journal.job_targets.Goals as goal

pub loop-part-init : goal.loop-part-init
loop-part-init c = record { are = c.in_ok-targets.ensures.items; paths = λ number part less there. absurd (omega (arith, less)) }

pub loop-part-preserved : goal.loop-part-preserved
loop-part-preserved c = record {
  are = one_target_more c.args.parts.now c.loop-part.part-index c.part-item.result c.loop-part.targets.items _ c.loop-part-test.true c.part-item.is c.loop-part.invariant.are
      (c.in_ok-push.ensures.items ∙ ap (λ target. c.loop-part.targets.items ++ target ∷ []) c.in_ok-target.ensures.is);
  paths = one_path_more c.args.parts.now c.loop-part.part-index c.part-item.result c.loop-part-test.true c.part-item.is c.in_ok-target.ensures.path c.loop-part.invariant.paths;
}

pub returns-clause-are : goal.returns-clause-are
returns-clause-are c = c.loop-part.invariant.are ∙ ap targets_of (take_all c.loop-part.part-index c.args.parts.now (omega (arith, c.loop-part-test.false)))

pub returns-clause-paths : goal.returns-clause-paths
returns-clause-paths c = λ number part there.
    c.loop-part.invariant.paths number part
    (let inside = slice_get_within c.args.parts.now number part there in let past = c.loop-part-test.false in omega arith) there
