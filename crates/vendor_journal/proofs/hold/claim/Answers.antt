use Rattle.std.proofs.Common.{◌≡◌, None, true, false, ◌∙◌, ap, sym, subst}
use Rattle.std.specs.FinMap as map
use Rattle.path_name.specs.Paths.{without_last}
use Rattle.tree_dev.specs.Trees.{has_folder}
use Rattle.tree_dev.specs.Changes.{is_root}
use Rattle.tree_dev.specs.Device.{Adds}
use Rattle.tree_dev.specs.Steady.{IsStaged}
use Rattle.tree_dev.specs.declared.change.Change.TheVariants.{FolderMade}
use Rattle.tree_dev.proofs.SteadyRules.{steady_start, steady_then_make}
use Rattle.install_world.specs.InFlight.{IsThere}
use Rattle.install_world.proofs.RecoveryRules.{work_under}
use Rattle.install_world.proofs.Segments.{install_segment}
use Rattle.vendor_journal.proofs.CallRules.{change_tells}
use Rattle.vendor_journal.proofs.HoldRules.{exists_there, new_is_below, no_folder_above, new_was_free, work_staged}
use Rattle.vendor_journal.proofs.hold.claim.Goals as goal

pub child-requires : goal.child-requires
child-requires g c = install_segment

pub returns-in_err-work-clause-steady : goal.returns-in_err-work-clause-steady
returns-in_err-work-clause-steady g c = steady_start c.args.project.now _

pub returns-in_err-held-clause-steady : goal.returns-in_err-held-clause-steady
returns-in_err-held-clause-steady g c = steady_start c.args.project.now _

pub returns-in_err-make_dir-clause-steady : goal.returns-in_err-make_dir-clause-steady
returns-in_err-make_dir-clause-steady g c =
    steady_then_make c.args.project.now _ _ _ _ c.make_dir.ensures.moments (subst (IsStaged c.args.project.now) (sym c.in_ok-work.ensures) (work_staged c.args.project.now))
    (steady_start c.args.project.now _)

pub returns-in_err-make_dir-clause-device : goal.returns-in_err-make_dir-clause-device
returns-in_err-make_dir-clause-device g c = λ failed. c.in_err-make_dir.ensures.cause

pub returns-in-New-clause-claimed : goal.returns-in-New-clause-claimed
returns-in-New-clause-claimed g c = λ t told. (
  subst (λ at. map.get t at ≡ None) c.in_ok-work.ensures (new_was_free t c.in_ok-work.work c.in_ok-make_dir.field-0 (c.in_ok-make_dir.ensures.answer t told) c.in-New.is),
  subst (λ at. Adds (g.T.Tree.meaning c.args.tree.now) (g.T.Tree.meaning c.make_dir.new.self) (FolderMade at)) c.in_ok-work.ensures
      (c.in_ok-make_dir.ensures.done c.in-New.is t told),
)

pub returns-in-New-clause-steady : goal.returns-in-New-clause-steady
returns-in-New-clause-steady g c =
    steady_then_make c.args.project.now _ _ _ _ c.make_dir.ensures.moments (subst (IsStaged c.args.project.now) (sym c.in_ok-work.ensures) (work_staged c.args.project.now))
    (steady_start c.args.project.now _)

pub returns-in-Exists-clause-unfinished : goal.returns-in-Exists-clause-unfinished
returns-in-Exists-clause-unfinished g c = λ is. (
  c.in_ok-make_dir.ensures.misplaced (λ new. let exists = c.in-Exists.is in absurd cc),
  λ t told. subst (IsThere t) c.in_ok-work.ensures
      (exists_there t c.in_ok-work.work c.in_ok-make_dir.field-0 (c.in_ok-make_dir.ensures.answer t told) c.in-Exists.is
      (ap is_root c.in_ok-work.ensures ∙ work_under c.args.project.now)),
)

pub returns-in-Exists-clause-steady : goal.returns-in-Exists-clause-steady
returns-in-Exists-clause-steady g c =
    steady_then_make c.args.project.now _ _ _ _ c.make_dir.ensures.moments (subst (IsStaged c.args.project.now) (sym c.in_ok-work.ensures) (work_staged c.args.project.now))
    (steady_start c.args.project.now _)

pub returns-in-Misplaced-clause-steady : goal.returns-in-Misplaced-clause-steady
returns-in-Misplaced-clause-steady g c =
    steady_then_make c.args.project.now _ _ _ _ c.make_dir.ensures.moments (subst (IsStaged c.args.project.now) (sym c.in_ok-work.ensures) (work_staged c.args.project.now))
    (steady_start c.args.project.now _)

pub returns-in-Misplaced-clause-vanished : goal.returns-in-Misplaced-clause-vanished
returns-in-Misplaced-clause-vanished g c = λ path is. (
  let same : c.in_ok-work.work ≡ path = cc in sym same ∙ c.in_ok-work.ensures,
  (
    c.in_ok-make_dir.ensures.misplaced (λ new. let misplaced = c.in-Misplaced.is in absurd cc),
    λ t told. subst (λ at. has_folder t (without_last at) ≡ false) c.in_ok-work.ensures
        (no_folder_above t c.in_ok-work.work c.in_ok-make_dir.field-0 (c.in_ok-make_dir.ensures.answer t told) c.in-Misplaced.is
        (ap is_root c.in_ok-work.ensures ∙ work_under c.args.project.now)).1,
  ),
)

pub returns-in-New-clause-above : goal.returns-in-New-clause-above
returns-in-New-clause-above g c = λ t told.
    subst (λ at. has_folder t (without_last at) ≡ true) c.in_ok-work.ensures
    (new_is_below t c.in_ok-work.work c.in_ok-make_dir.field-0 (c.in_ok-make_dir.ensures.answer t told) c.in-New.is
    (ap is_root c.in_ok-work.ensures ∙ work_under c.args.project.now))

pub returns-in_err-make_dir-clause-tells : goal.returns-in_err-make_dir-clause-tells
returns-in_err-make_dir-clause-tells g c = change_tells _ _ _ c.make_dir.ensures.moments

pub returns-in-New-clause-tells : goal.returns-in-New-clause-tells
returns-in-New-clause-tells g c = change_tells _ _ _ c.make_dir.ensures.moments

pub returns-in-Exists-clause-tells : goal.returns-in-Exists-clause-tells
returns-in-Exists-clause-tells g c = change_tells _ _ _ c.make_dir.ensures.moments

pub returns-in-Misplaced-clause-tells : goal.returns-in-Misplaced-clause-tells
returns-in-Misplaced-clause-tells g c = change_tells _ _ _ c.make_dir.ensures.moments
