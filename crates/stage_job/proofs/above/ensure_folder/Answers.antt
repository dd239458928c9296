use Rattle.std.proofs.Common.{◌≡◌, sym, ap, ◌∙◌}
use Rattle.std.specs.FinMap as map
use Rattle.tree_dev.specs.Trees.{FileTree}
use Rattle.tree_dev.specs.declared.change.Change.TheVariants.{FolderMade}
use Rattle.tree_dev.specs.declared.did.Made.TheVariants as mades
use Rattle.tree_dev.proofs.Changed.{get-changed}
use Rattle.stage_job.proofs.AboveSteps.{exists_folder, kept_folder, never_misplaced, same_told, staging_either}
use Rattle.stage_job.proofs.Exits.{device_exit, known_exit}
use Rattle.stage_job.proofs.Made.{after_change}
use Rattle.stage_job.proofs.StagingRules.{fine}
use Rattle.stage_job.proofs.above.ensure_folder.Goals as goal

pub returns-in_err-make_dir-clause-staging : goal.returns-in_err-make_dir-clause-staging
returns-in_err-make_dir-clause-staging g c = λ project can. device_exit c.from_residual.result c.from_residual.ensures.1
    (staging_either (λ f. c.in_err-make_dir.ensures.cause) can (g.met.T.Tree.tells_its_disk c.args.tree.now) c.make_dir.ensures.moments)

pub returns-in-New-clause-staging : goal.returns-in-New-clause-staging
returns-in-New-clause-staging g c = λ project can. staging_either (λ f. fine f) can (g.met.T.Tree.tells_its_disk c.args.tree.now) c.make_dir.ensures.moments

pub returns-in-New-clause-made : goal.returns-in-New-clause-made
returns-in-New-clause-made g c = λ t told u now path.
    let meaning = g.T.Tree.meaning in
    let is = after_change (meaning c.args.tree.now) (meaning c.make_dir.new.self) (FolderMade c.args.at.now) t u (c.in_ok-make_dir.ensures.done c.in-New.is t told) told now in
    ap (λ (v : FileTree). map.get v path) is ∙ get-changed t (FolderMade c.args.at.now) path

pub returns-in-Exists-clause-staging : goal.returns-in-Exists-clause-staging
returns-in-Exists-clause-staging g c = λ project can. staging_either (λ f. fine f) can (g.met.T.Tree.tells_its_disk c.args.tree.now) c.make_dir.ensures.moments

pub returns-in-Exists-clause-made : goal.returns-in-Exists-clause-made
returns-in-Exists-clause-made g c = λ t told u now path.
    let meaning = g.T.Tree.meaning in
    let stays = c.in_ok-make_dir.ensures.misplaced (λ e. (let h : mades.Exists ≡ mades.New = sym c.in-Exists.is ∙ e in absurd cc)) in
    let is = same_told (meaning c.args.tree.now) (meaning c.make_dir.new.self) t u stays told now in
    ap (λ (v : FileTree). map.get v path) is
    ∙ kept_folder t c.args.at.now path (exists_folder t c.args.at.now (c.requires.above t told) (c.requires.free t told) (sym c.in-Exists.is ∙ c.in_ok-make_dir.ensures.answer t told))

pub returns-in-Misplaced-clause-staging : goal.returns-in-Misplaced-clause-staging
returns-in-Misplaced-clause-staging g c = λ project can. known_exit c.vanished.result c.vanished.ensures.no_device
    (staging_either (λ f. fine f) can (g.met.T.Tree.tells_its_disk c.args.tree.now) c.make_dir.ensures.moments)

pub returns-in-Misplaced-clause-answer : goal.returns-in-Misplaced-clause-answer
returns-in-Misplaced-clause-answer g c = λ t told left.
    absurd (never_misplaced t c.args.at.now (c.requires.above t told) (c.requires.free t told) (sym c.in-Misplaced.is ∙ c.in_ok-make_dir.ensures.answer t told))
