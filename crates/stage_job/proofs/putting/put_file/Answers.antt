use Rattle.std.proofs.Common.{◌≡◌, sym, ◌∙◌}
use Rattle.tree_dev.specs.declared.change.Change.TheVariants.{Written}
use Rattle.tree_dev.specs.declared.did.Did.TheVariants as dids
use Rattle.stage_job.proofs.Exits.{device_exit, known_exit}
use Rattle.stage_job.proofs.Made.{after_change, file_put, free_writes}
use Rattle.stage_job.proofs.StagingRules.{fine, nothing_at, staging_write}
use Rattle.stage_job.proofs.putting.put_file.Goals as goal

pub returns-in_err-write-clause-staging : goal.returns-in_err-write-clause-staging
returns-in_err-write-clause-staging g c = λ project staged. device_exit c.from_residual.result c.from_residual.ensures.1
    (staging_write (λ f. c.in_err-write.ensures.cause) staged (nothing_at c.args.at.now (g.T.Tree.meaning c.args.tree.now) c.requires.free) c.write.ensures.moments)

pub returns-in-Done-clause-staging : goal.returns-in-Done-clause-staging
returns-in-Done-clause-staging g c = λ project staged. staging_write (λ f. fine f) staged (nothing_at c.args.at.now (g.T.Tree.meaning c.args.tree.now) c.requires.free) c.write.ensures.moments

pub returns-in-Done-clause-made : goal.returns-in-Done-clause-made
returns-in-Done-clause-made g c = λ t told u now.
    let meaning = g.T.Tree.meaning in
    file_put c.args.at.now c.args.bytes.now t u
    (after_change (meaning c.args.tree.now) (meaning c.write.new.self) (Written c.args.at.now c.args.bytes.now) t u (c.in_ok-write.ensures.done c.in-Done.is t told) told now)
    (c.requires.free t told)

pub returns-in-Misplaced-clause-staging : goal.returns-in-Misplaced-clause-staging
returns-in-Misplaced-clause-staging g c = λ project staged. known_exit c.vanished.result c.vanished.ensures.no_device
    (staging_write (λ f. fine f) staged (nothing_at c.args.at.now (g.T.Tree.meaning c.args.tree.now) c.requires.free) c.write.ensures.moments)

pub returns-in-Misplaced-clause-answer : goal.returns-in-Misplaced-clause-answer
returns-in-Misplaced-clause-answer g c = λ t told left.
    let e : dids.Misplaced ≡ dids.Done = sym c.in-Misplaced.is ∙ c.in_ok-write.ensures.answer t told ∙ free_writes c.args.at.now c.args.bytes.now t (c.requires.free t told) in
    absurd cc
