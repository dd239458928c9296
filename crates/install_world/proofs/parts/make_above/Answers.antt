use Rattle.std.proofs.Common.{◌≡◌, ◌∙◌, ◌++◌, ℕ, List, Some, true, refl, subst, sym}
use Rattle.std.proofs.lemmas.Result.{err_from_is_err_and, on_ok_weaker}
use Rattle.tree_dev.specs.Trees.{entry_at, is_folder}
use Rattle.install_world.proofs.FinishSteps.{made_itself, made_wider, parent_within}
use Rattle.install_world.proofs.BlockedParts.{not_above_itself}
use Rattle.install_world.proofs.FinishSteps.{made_elsewhere}
use Rattle.install_world.proofs.FoldersThere.{parent_behind}
use Rattle.install_world.proofs.parts.make_above.Goals as goal

pub returns-in_err-parent-clause-makes : goal.returns-in_err-parent-clause-makes
returns-in_err-parent-clause-makes g c = made_itself _ _

pub returns-in-None-clause-makes : goal.returns-in-None-clause-makes
returns-in-None-clause-makes g c = made_itself _ _

pub returns-in-Some-clause-makes : goal.returns-in-Some-clause-makes
returns-in-Some-clause-makes g c =
    made_wider _ _ _ _ (parent_within c.args.project.now c.args.target.now c.in-Some.above (sym c.in_ok-parent.ensures ∙ c.in-Some.is)) c.make_folders.ensures.makes

pub returns-in_err-parent-clause-never_vanished : goal.returns-in_err-parent-clause-never_vanished
returns-in_err-parent-clause-never_vanished g c = let p = err_from_is_err_and c.from_residual.result c.from_residual.ensures.1 in rw (p.1, p.2) (λ t told folder. refl)

pub returns-in-None-clause-there : goal.returns-in-None-clause-there
returns-in-None-clause-there g c = λ t told folder above is u now.
    let none = sym c.in-None.is ∙ c.in_ok-parent.ensures ∙ is in absurd cc

pub returns-in-Some-clause-never_vanished : goal.returns-in-Some-clause-never_vanished
returns-in-Some-clause-never_vanished g c = λ t told folder. c.make_folders.ensures.never_vanished t told folder

pub returns-in-Some-clause-there : goal.returns-in-Some-clause-there
returns-in-Some-clause-there g c = on_ok_weaker c.make_folders.result
    (λ there t told folder above is u now.
    let both : Some c.in-Some.above ≡ Some above = sym c.in-Some.is ∙ c.in_ok-parent.ensures ∙ is in
    let same : c.in-Some.above ≡ above = cc in
    subst (λ (p : List (List ℕ)). is_folder (entry_at u (c.args.project.now ++ p)) ≡ true) same (there t told folder u now))
    c.make_folders.ensures.there

pub returns-in-Some-clause-above : goal.returns-in-Some-clause-above
returns-in-Some-clause-above g c = λ at is. record {
  parent = c.args.project.now ++ c.in-Some.above;
  parent_is = parent_behind c.args.project.now c.args.target.now c.in-Some.above (sym c.in_ok-parent.ensures ∙ c.in-Some.is);
  within = c.make_folders.ensures.within at is;
}

pub returns-in_err-parent-clause-misses : goal.returns-in_err-parent-clause-misses
returns-in_err-parent-clause-misses g c = refl

pub returns-in-None-clause-misses : goal.returns-in-None-clause-misses
returns-in-None-clause-misses g c = refl

pub returns-in-Some-clause-misses : goal.returns-in-Some-clause-misses
returns-in-Some-clause-misses g c =
    made_elsewhere (c.args.project.now ++ c.in-Some.above) (c.args.project.now ++ c.args.target.now) _ _ c.make_folders.ensures.makes
    (not_above_itself (c.args.project.now ++ c.args.target.now) (c.args.project.now ++ c.in-Some.above)
    (parent_behind c.args.project.now c.args.target.now c.in-Some.above (sym c.in_ok-parent.ensures ∙ c.in-Some.is)))
