use Rattle.stage_job.proofs.NeverVanishes.{answer_stands, job_stands}
use Rattle.stage_job.proofs.whole.stage.Goals as goal

pub stage_whole-requires : goal.stage_whole-requires
stage_whole-requires g c = record {
  parts = rw c.as_slice.ensures c.requires.parts;
  claimed = c.requires.claimed;
  parents = rw c.as_slice.ensures c.requires.parents;
}

pub returns-clause-staged : goal.returns-clause-staged
returns-clause-staged g c = rw c.as_slice.ensures at c.stage_whole.ensures.staged

pub returns-clause-never_vanished : goal.returns-clause-never_vanished
returns-clause-never_vanished g c = λ t told.
    answer_stands _ c.stage_whole.new.left.left c.stage_whole.result (job_stands c.args.project.now t c.as_slice.result.now c.args.left.now.left) (c.stage_whole.ensures.exact t told)

pub returns-clause-writes : goal.returns-clause-writes
returns-clause-writes g c = λ t told. rw c.as_slice.ensures at (c.stage_whole.ensures.writes t told)
