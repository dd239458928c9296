use Rattle.std.proofs.Common.{◌≡◌, Bool, Err, sym, ap, ◌∙◌, subst}
use Rattle.std.specs.Prelude.{◌⊎◌, IsTrue}
use Rattle.stage_job.specs.Checked.{job_checked}
use Rattle.stage_job.specs.Staged.{Staging}
use Rattle.run_answers.specs.Faults.{is_free, is_of_device}
use Rattle.run_answers.specs.declared.refusal.Refusal.{Refusal}
use Rattle.install_commands.specs.Refusals.{or_not_staged}
use Rattle.install_commands.proofs.Faults.{staging_device, staging_told}
use Rattle.install_commands.proofs.WriteCounts.{at_most_staged}
use Rattle.install_commands.proofs.claimed.stage_work.Goals as goal

pub returns-in-Ok-clause-told : goal.returns-in-Ok-clause-told
returns-in-Ok-clause-told g c = λ t told. ap or_not_staged (c.in-Ok.ensures.exact t told)

pub returns-in-Err-clause-told : goal.returns-in-Err-clause-told
returns-in-Err-clause-told g c = λ t told.
    let wanted = job_checked c.args.hold.now.project t c.args.work.now.job.parts c.args.left.now.left in
    subst (λ (r : Refusal). IsTrue (is_free r) ⊎ (or_not_staged wanted ≡ Err r)) (sym c.refusal_of_staging.ensures.value)
    (staging_told wanted c.in-Err.fault (c.in-Err.ensures.exact t told))

pub returns-in-Err-clause-staging : goal.returns-in-Err-clause-staging
returns-in-Err-clause-staging g c =
    subst (λ (failed : Bool). Staging c.args.hold.now.project (g.T.Tree.meaning c.args.tree.now) (g.T.Tree.meaning c.stage.new.tree) failed)
    (staging_device c.in-Err.fault ∙ ap is_of_device (sym c.refusal_of_staging.ensures.value)) c.in-Err.ensures.staging

pub returns-in-Ok-clause-writes : goal.returns-in-Ok-clause-writes
returns-in-Ok-clause-writes g c = λ t told. at_most_staged _ _ _ (c.in-Ok.ensures.writes t told)

pub returns-in-Err-clause-writes : goal.returns-in-Err-clause-writes
returns-in-Err-clause-writes g c = c.in-Err.ensures.writes
