use Rattle.std.proofs.Common.{◌∙◌, ℕ, Option, subst}
use Rattle.run_answers.specs.Steps.{TellsOne}
use Rattle.std.proofs.lemmas.Result.{err_from_is_err_and}
use Rattle.project_files.specs.States.{generation_in}
use Rattle.install_choice.specs.Choosing.{IsChosenToInstall}
use Rattle.install_packages.specs.Installing.{IsInstall, IsWorkBy}
use Rattle.install_choice.specs.Sequences.{Then}
use Rattle.install_choice.proofs.Sequencing.{stopped, went}
use Rattle.install_packages.proofs.Works.{with_entries}
use Rattle.install_packages.proofs.installing.install_work.Goals as goal

pub returns-in_err-chosen-clause-told : goal.returns-in_err-chosen-clause-told
unfolding IsInstall
returns-in_err-chosen-clause-told g c = λ t told.
    let failed = err_from_is_err_and c.from_residual-in_err-chosen.result c.from_residual-in_err-chosen.ensures.1 in
    rw (failed.1, failed.2) (stopped (IsChosenToInstall t c.args.project.now c.args.left.now.left) (IsWorkBy t c.args.project.now c.args.ways.now (generation_in t c.args.project.now)) c.in_err-chosen.field-0.0
    (c.in_err-chosen.ensures.told t (c.in_ok-stands.ensures.only_read.told ∙ told)))

pub returns-clause-told : goal.returns-clause-told
unfolding IsInstall
returns-clause-told g c = λ t told.
    let at = c.args.project.now in
    let after = c.work_by.new.left.left in
    let read = c.in_ok-stands.ensures.only_read.told ∙ told in
    let next = subst (λ (stands : Option ℕ). TellsOne (λ work. (work, after)) (IsWorkBy t at c.args.ways.now stands (c.in_ok-chosen.chosen, c.chosen_to_install.new.left.left)) c.work_by.result)
    (c.in_ok-stands.ensures.told t told) (c.work_by.ensures.told t (c.in_ok-chosen.ensures.only_read.told ∙ read)) in
    with_entries after (Then (IsChosenToInstall t at c.args.left.now.left) (IsWorkBy t at c.args.ways.now (generation_in t at))) c.work_by.result
    (went (IsChosenToInstall t at c.args.left.now.left) (IsWorkBy t at c.args.ways.now (generation_in t at)) (c.in_ok-chosen.chosen, c.chosen_to_install.new.left.left) (λ work. (work, after)) c.work_by.result
    (c.in_ok-chosen.ensures.told t read) next)
