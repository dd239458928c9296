use Rattle.stage_job.proofs.Exits.{memory_exit}
use Rattle.stage_job.proofs.StagingRules.{staging_start}
use Rattle.stage_job.proofs.above.make_above.Goals as goal

pub returns-in_err-names-clause-staging : goal.returns-in_err-names-clause-staging
returns-in_err-names-clause-staging g c = λ project can. memory_exit c.from_residual.result c.from_residual.ensures.1 (staging_start)

pub returns-clause-staging : goal.returns-clause-staging
returns-clause-staging g c = λ project can. c.make_way.ensures.staging project (rw (c.as_slice.ensures.value, c.in_ok-names.ensures.names) can)
