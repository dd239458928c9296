use Rattle.std.specs.Prelude.{◌⊎◌, IsTrue}
use Rattle.std.proofs.Common.{Bool, Err, sym, ap, ◌∙◌, subst}
use Rattle.tree_dev.specs.Device.{OnlyRead}
use Rattle.package_moves.specs.Moves.{moves_checked}
use Rattle.run_answers.specs.Faults.{is_free, is_of_device}
use Rattle.run_answers.specs.declared.refusal.Refusal.{Refusal}
use Rattle.install_packages.specs.InstallParts.{IsJob}
use Rattle.install_commands.proofs.Faults.{staging_device, staging_told}
use Rattle.install_packages.proofs.wanted.job_for.Goals as goal

pub returns-in-Ok-clause-told : goal.returns-in-Ok-clause-told
unfolding IsJob
returns-in-Ok-clause-told g c = λ t told. (c.in-Ok.ensures.job t told, c.in-Ok.ensures.exact t told, c.in-Ok.ensures.parts c.requires.parts)

pub returns-in-Err-clause-told : goal.returns-in-Err-clause-told
unfolding IsJob
returns-in-Err-clause-told g c = λ t told.
    let at = c.args.project.now in
    let wanted = c.args.wanted.now in
    let left = c.args.left.now.left in
    subst (λ (r : Refusal). IsTrue (is_free r) ⊎ IsJob t at wanted left (Err r)) (sym c.refusal_of_staging.ensures.value)
    (staging_told (moves_checked at t wanted left) c.in-Err.fault (c.in-Err.ensures.exact t told))

pub returns-in-Err-clause-only_read : goal.returns-in-Err-clause-only_read
returns-in-Err-clause-only_read g c =
    subst (λ (failed : Bool). OnlyRead (g.T.Tree.meaning c.args.tree.now) (g.T.Tree.meaning c.moves.new.tree) failed)
    (staging_device c.in-Err.fault ∙ ap is_of_device (sym c.refusal_of_staging.ensures.value)) c.in-Err.ensures.only_read
