use Rattle.std.proofs.Common.{◌≡◌, sym, ◌∙◌}
use Rattle.tree_dev.specs.declared.change.Change.TheVariants.{FolderMade}
use Rattle.tree_dev.specs.declared.did.Made.TheVariants as mades
use Rattle.stage_job.proofs.Exits.{device_exit, known_exit}
use Rattle.stage_job.proofs.Made.{after_change, folder_put, free_makes}
use Rattle.stage_job.proofs.StagingRules.{fine, staging_make}
use Rattle.stage_job.proofs.putting.make_folder.Goals as goal

pub returns-in_err-make_dir-clause-staging : goal.returns-in_err-make_dir-clause-staging
returns-in_err-make_dir-clause-staging g c = λ project staged. device_exit c.from_residual.result c.from_residual.ensures.1
    (staging_make (λ f. c.in_err-make_dir.ensures.cause) staged c.make_dir.ensures.moments)

pub returns-in-New-clause-staging : goal.returns-in-New-clause-staging
returns-in-New-clause-staging g c = λ project staged. staging_make (λ f. fine f) staged c.make_dir.ensures.moments

pub returns-in-New-clause-made : goal.returns-in-New-clause-made
returns-in-New-clause-made g c = λ t told u now.
    let meaning = g.T.Tree.meaning in
    folder_put c.args.at.now t u
    (after_change (meaning c.args.tree.now) (meaning c.make_dir.new.self) (FolderMade c.args.at.now) t u (c.in_ok-make_dir.ensures.done c.in-New.is t told) told now)
    (c.requires.free t told)

pub returns-in-Exists-clause-staging : goal.returns-in-Exists-clause-staging
returns-in-Exists-clause-staging g c = λ project staged. known_exit c.vanished.result c.vanished.ensures.no_device
    (staging_make (λ f. fine f) staged c.make_dir.ensures.moments)

pub returns-in-Exists-clause-answer : goal.returns-in-Exists-clause-answer
returns-in-Exists-clause-answer g c = λ t told left.
    let e : mades.Exists ≡ mades.New = sym c.in-Exists.is ∙ c.in_ok-make_dir.ensures.answer t told ∙ free_makes c.args.at.now t (c.requires.free t told) in
    absurd cc

pub returns-in-Misplaced-clause-staging : goal.returns-in-Misplaced-clause-staging
returns-in-Misplaced-clause-staging g c = λ project staged. known_exit c.vanished-in-Misplaced.result c.vanished-in-Misplaced.ensures.no_device
    (staging_make (λ f. fine f) staged c.make_dir.ensures.moments)

pub returns-in-Misplaced-clause-answer : goal.returns-in-Misplaced-clause-answer
returns-in-Misplaced-clause-answer g c = λ t told left.
    let e : mades.Misplaced ≡ mades.New = sym c.in-Misplaced.is ∙ c.in_ok-make_dir.ensures.answer t told ∙ free_makes c.args.at.now t (c.requires.free t told) in
    absurd cc
