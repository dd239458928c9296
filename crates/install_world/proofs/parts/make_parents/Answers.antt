use Rattle.std.proofs.Common.{◌≡◌, ◌∙◌, ◌++◌, Some, ap, refl, sym}
use Rattle.std.proofs.lemmas.Result.{err_from_is_err_and, on_ok_weaker}
use Rattle.path_name.specs.Paths.{without_last}
use Rattle.tree_dev.specs.Trees.{has_folder}
use Rattle.install_world.proofs.FoldersThere.{above_target}
use Rattle.install_world.proofs.FinishSteps.{made_itself}
use Rattle.install_world.proofs.parts.make_parents.Goals as goal

pub returns-in_err-whole-clause-makes : goal.returns-in_err-whole-clause-makes
returns-in_err-whole-clause-makes g c = made_itself _ _

pub returns-in_err-parent-clause-makes : goal.returns-in_err-parent-clause-makes
returns-in_err-parent-clause-makes g c = made_itself _ _

pub returns-in-None-clause-makes : goal.returns-in-None-clause-makes
returns-in-None-clause-makes g c = made_itself _ _

pub returns-in_err-whole-clause-never_vanished : goal.returns-in_err-whole-clause-never_vanished
returns-in_err-whole-clause-never_vanished g c = let p = err_from_is_err_and c.from_residual.result c.from_residual.ensures.1 in rw (p.1, p.2) (λ t told folder. refl)

pub returns-in_err-parent-clause-never_vanished : goal.returns-in_err-parent-clause-never_vanished
returns-in_err-parent-clause-never_vanished g c = let p = err_from_is_err_and c.from_residual-in_err-parent.result c.from_residual-in_err-parent.ensures.1 in rw (p.1, p.2) (λ t told folder. refl)

pub returns-in-None-clause-there : goal.returns-in-None-clause-there
returns-in-None-clause-there g c = λ t told folder some u now.
    let found = above_target c.args.project.now c.args.target.now some in
    let none = sym c.in-None.is ∙ c.in_ok-parent.ensures ∙ ap without_last c.in_ok-whole.ensures ∙ found.2 in
    absurd cc

pub returns-clause-never_vanished : goal.returns-clause-never_vanished
returns-clause-never_vanished g c = λ t told folder. c.make_up_to.ensures.never_vanished t told folder

pub returns-clause-there : goal.returns-clause-there
returns-clause-there g c = on_ok_weaker c.make_up_to.result
    (λ there t told folder some u now.
    let found = above_target c.args.project.now c.args.target.now some in
    let both : Some c.in-Some.parent ≡ Some (c.args.project.now ++ found.0) = sym c.in-Some.is ∙ c.in_ok-parent.ensures ∙ ap without_last c.in_ok-whole.ensures ∙ found.2 in
    let same : c.in-Some.parent ≡ c.args.project.now ++ found.0 = cc in
    ap (has_folder u) (found.2 ∙ sym both) ∙ there t told folder found.0 found.1 same u now)
    c.make_up_to.ensures.there

pub returns-clause-above : goal.returns-clause-above
returns-clause-above g c = λ at is. c.make_up_to.ensures.above at is

pub returns-in_err-whole-clause-misses : goal.returns-in_err-whole-clause-misses
returns-in_err-whole-clause-misses g c = refl

pub returns-in_err-parent-clause-misses : goal.returns-in_err-parent-clause-misses
returns-in_err-parent-clause-misses g c = refl

pub returns-in-None-clause-misses : goal.returns-in-None-clause-misses
returns-in-None-clause-misses g c = refl

pub returns-clause-misses : goal.returns-clause-misses
returns-clause-misses g c = c.make_up_to.ensures.misses
