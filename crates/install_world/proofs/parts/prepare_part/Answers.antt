use Rattle.std.proofs.Common.{◌++◌, refl, sym, subst}
use Rattle.tree_dev.specs.Trees.{FileTree}
use Rattle.tree_dev.specs.Disk.{reading}
use Rattle.install_world.specs.Finishing.{OnlyMade}
use Rattle.install_world.specs.Removals.{OnlyRemoved}
use Rattle.std.proofs.lemmas.Result.{err_from_is_err_and}
use Rattle.install_world.specs.Moving.{ArePlaces}
use Rattle.install_world.proofs.PartFinish.{parents_are, parents_then, still_through, way_reads}
use Rattle.install_world.proofs.RemovalRules.{removed_itself, writes_none_on}
use Rattle.std.proofs.lemmas.Result.{on_ok_weaker}
use Rattle.install_world.proofs.PartDone.{told_still}
use Rattle.install_world.proofs.FoldersThere.{fit_is_there, folders_ready, target_is_some}
use Rattle.std.proofs.Common.{◌≡◌, true, List, ℕ, ap, ◌∙◌, is_some}
use Rattle.tree_dev.specs.Trees.{entry_at, is_folder}
use Rattle.tree_dev.specs.Changes.{is_leaf}
use Rattle.tree_dev.specs.Disk.{Disks}
use Rattle.tree_dev.proofs.Whole.{through_then_read}
use Rattle.install_world.specs.InFlight.{old_path}
use Rattle.install_world.specs.Moving.{IsOnWay}
use Rattle.install_world.proofs.FinishSteps.{made_then_read}
use Rattle.install_world.proofs.FoldersThere.{made_old}
use Rattle.install_world.proofs.RemovalRules.{writes_none_read}
use Rattle.std.proofs.Common.{inl, inr}
use Rattle.std.specs.FinMap as map
use Rattle.tree_dev.specs.Trees.{kind_at}
use Rattle.tree_dev.specs.Changes.{is_root}
use Rattle.install_world.specs.InFlight.{IsThere, staged_path, target_path}
use Rattle.install_world.specs.Moving.{is_kept}
use Rattle.install_world.proofs.BlockedParts.{blocked_then, made_leaf, needs_back, nothing_stops, own_needs}
use Rattle.install_world.proofs.WayMoves.{staged_under}
use Rattle.install_world.proofs.parts.prepare_part.Goals as goal

pub returns-in_err-make_needed-clause-writes_none : goal.returns-in_err-make_needed-clause-writes_none
returns-in_err-make_needed-clause-writes_none g c =
    let p = err_from_is_err_and c.from_residual.result c.from_residual.ensures.1 in
    rw (p.1, p.2) c.in_err-make_needed.ensures.writes_none

pub returns-in_err-make_needed-clause-through : goal.returns-in_err-make_needed-clause-through
returns-in_err-make_needed-clause-through g c = λ t told way number same are part each.
    let on = way_reads way (g.T.Tree.meaning c.args.tree.now) t (g.met.T.Tree.tells_its_disk c.args.tree.now t told) each in
    still_through way _ _ (c.make_needed.ensures.still t told (parents_are way c.args.project.now number c.args.target.now t same on part))
    c.make_needed.ensures.writes_none.faults each

pub returns-clause-writes_none : goal.returns-clause-writes_none
returns-clause-writes_none g c = writes_none_on _ _ _ _ c.clear_kept.ensures.writes_none (writes_none_read _ _ _ _ c.in_ok-find_folder_of_kept.ensures.only_read c.in_ok-make_needed.ensures.writes_none)

pub returns-clause-through : goal.returns-clause-through
returns-clause-through g c = λ t told way number same are part each.
    let on = way_reads way (g.T.Tree.meaning c.args.tree.now) t (g.met.T.Tree.tells_its_disk c.args.tree.now t told) each in
    parents_then way _ _ _ t told (writes_none_read _ _ _ _ c.in_ok-find_folder_of_kept.ensures.only_read c.in_ok-make_needed.ensures.writes_none).tells (writes_none_read _ _ _ _ c.in_ok-find_folder_of_kept.ensures.only_read c.in_ok-make_needed.ensures.writes_none).faults
    (c.find_folder_of_kept.ensures.only_read.disks ∙ c.make_needed.ensures.still t told (parents_are way c.args.project.now number c.args.target.now t same on part))
    (λ u now. c.clear_kept.ensures.through u now way number c.args.target.now
    (subst (λ p. ArePlaces p number c.args.target.now c.args.places.now) (sym same) are) part refl)
    each

pub returns-clause-room : goal.returns-clause-room
returns-clause-room g c = on_ok_weaker c.clear_kept.result
    (λ room t told under.
    let mid = told_still (g.T.Tree.meaning c.args.tree.now) (g.T.Tree.meaning c.find_folder_of_kept.new.tree) t (writes_none_read _ _ _ _ c.in_ok-find_folder_of_kept.ensures.only_read c.in_ok-make_needed.ensures.writes_none).tells told in
    room mid.0 mid.1 under)
    c.clear_kept.ensures.room

pub returns-in_err-make_needed-clause-fits : goal.returns-in_err-make_needed-clause-fits
returns-in_err-make_needed-clause-fits g c = let p = err_from_is_err_and c.from_residual.result c.from_residual.ensures.1 in rw (p.1, p.2) (λ t told under parents old. c.in_err-make_needed.ensures.fits t told parents)

pub returns-clause-fits : goal.returns-clause-fits
returns-clause-fits g c = λ t told under parents old.
    let mid = told_still (g.T.Tree.meaning c.args.tree.now) (g.T.Tree.meaning c.find_folder_of_kept.new.tree) t (writes_none_read _ _ _ _ c.in_ok-find_folder_of_kept.ensures.only_read c.in_ok-make_needed.ensures.writes_none).tells told in
    c.clear_kept.ensures.fits mid.0 mid.1 under

pub returns-in_err-make_needed-clause-ready : goal.returns-in_err-make_needed-clause-ready
returns-in_err-make_needed-clause-ready g c = record { between = _; made = c.make_needed.ensures.makes; removed = removed_itself _ _ }

pub returns-in_err-make_needed-clause-cause : goal.returns-in_err-make_needed-clause-cause
returns-in_err-make_needed-clause-cause g c = λ path is.
    let p = err_from_is_err_and c.from_residual.result c.from_residual.ensures.1 in
    let given = p.1 in
    let from = p.2 in
    c.in_err-make_needed.ensures.cause path cc

pub returns-clause-ready : goal.returns-clause-ready
returns-clause-ready g c = record {
  between = _;
  made = made_then_read _ _ _ _ _ c.find_folder_of_kept.ensures.only_read c.make_needed.ensures.makes;
  removed = c.clear_kept.ensures.removes;
}

pub returns-clause-cause : goal.returns-clause-cause
returns-clause-cause g c = λ path is. absurd (c.clear_kept.ensures.not_other path is)

pub returns-in_err-make_needed-clause-never_vanished : goal.returns-in_err-make_needed-clause-never_vanished
returns-in_err-make_needed-clause-never_vanished g c =
    let p = err_from_is_err_and c.from_residual.result c.from_residual.ensures.1 in rw (p.1, p.2) (λ t told folder under number are old. c.in_err-make_needed.ensures.never_vanished t told folder)

pub returns-clause-never_vanished : goal.returns-clause-never_vanished
returns-clause-never_vanished g c = λ t told folder under number are old.
    let mid = told_still (g.T.Tree.meaning c.args.tree.now) (g.T.Tree.meaning c.find_folder_of_kept.new.tree) t (writes_none_read _ _ _ _ c.in_ok-find_folder_of_kept.ensures.only_read c.in_ok-make_needed.ensures.writes_none).tells told in
    fit_is_there _ c.clear_kept.result (c.clear_kept.ensures.fits mid.0 mid.1 under)

pub returns-clause-folders : goal.returns-clause-folders
returns-clause-folders g c = on_ok_weaker c.clear_kept.result
    (λ room t told folder number are u now.
    let first = told_still (g.T.Tree.meaning c.args.tree.now) (g.T.Tree.meaning c.make_needed.new.tree) t c.in_ok-make_needed.ensures.writes_none.tells told in
    let next = c.find_folder_of_kept.ensures.only_read.told ∙ first.1 in
    let at = c.args.project.now ++ c.args.target.now.path in
    let was = (g.met.T.Tree.tells_its_disk c.args.tree.now t told).reads in
    let then = (g.met.T.Tree.tells_its_disk c.make_needed.new.tree first.0 first.1).reads in
    let after = (g.met.T.Tree.tells_its_disk c.find_folder_of_kept.new.tree first.0 next).reads in
    let last = (g.met.T.Tree.tells_its_disk c.clear_kept.new.tree u now).reads in
    folders_ready c.args.project.now number c.args.target.now c.args.places.now are first.0 u
    (subst (λ (w : FileTree). OnlyRemoved c.args.places.now.kept first.0 w) (sym last)
    (subst (λ (w : FileTree). OnlyRemoved c.args.places.now.kept w (reading (g.T.Tree.meaning c.clear_kept.new.tree).disks.now)) (sym after) c.clear_kept.ensures.removes))
    t
    (subst (λ (w : FileTree). OnlyMade at t w) (sym then) (subst (λ (w : FileTree). OnlyMade at w (reading (g.T.Tree.meaning c.make_needed.new.tree).disks.now)) (sym was) c.make_needed.ensures.makes))
    (λ kept. c.in_ok-find_folder_of_kept.ensures.folder first.0 first.1 kept)
    (λ goes staged. c.in_ok-make_needed.ensures.there t told folder (target_is_some c.args.target.now.path are.is_target) goes staged first.0 first.1))
    c.clear_kept.ensures.room

pub returns-in_err-make_needed-clause-stays : goal.returns-in_err-make_needed-clause-stays
returns-in_err-make_needed-clause-stays g c = λ path is. c.make_needed.ensures.makes

pub returns-clause-stays : goal.returns-clause-stays
returns-clause-stays g c = λ path is. absurd (c.clear_kept.ensures.not_other path is)

pub returns-in_err-find_folder_of_kept-clause-writes_none : goal.returns-in_err-find_folder_of_kept-clause-writes_none
returns-in_err-find_folder_of_kept-clause-writes_none g c =
    let p = err_from_is_err_and c.from_residual-in_err-find_folder_of_kept.result c.from_residual-in_err-find_folder_of_kept.ensures.1 in
    rw (p.1, p.2) (writes_none_read _ _ _ _ c.in_err-find_folder_of_kept.ensures.only_read c.in_ok-make_needed.ensures.writes_none)

pub returns-in_err-find_folder_of_kept-clause-through : goal.returns-in_err-find_folder_of_kept-clause-through
returns-in_err-find_folder_of_kept-clause-through g c = λ t told way number same are part each.
    let on = way_reads way (g.T.Tree.meaning c.args.tree.now) t (g.met.T.Tree.tells_its_disk c.args.tree.now t told) each in
    through_then_read (IsOnWay way) _ _ _ _ c.find_folder_of_kept.ensures.only_read
    (still_through way _ _ (c.make_needed.ensures.still t told (parents_are way c.args.project.now number c.args.target.now t same on part))
    c.make_needed.ensures.writes_none.faults each)

pub returns-in_err-find_folder_of_kept-clause-fits : goal.returns-in_err-find_folder_of_kept-clause-fits
returns-in_err-find_folder_of_kept-clause-fits g c =
    let p = err_from_is_err_and c.from_residual-in_err-find_folder_of_kept.result c.from_residual-in_err-find_folder_of_kept.ensures.1 in
    rw (p.1, p.2) (λ t told under parents old.
    let mid = told_still (g.T.Tree.meaning c.args.tree.now) (g.T.Tree.meaning c.make_needed.new.tree) t c.in_ok-make_needed.ensures.writes_none.tells told in
    let was = (g.met.T.Tree.tells_its_disk c.args.tree.now t told).reads in
    let then = (g.met.T.Tree.tells_its_disk c.make_needed.new.tree mid.0 mid.1).reads in
    let same : mid.0 ≡ t = then ∙ ap (λ (disks : Disks). reading disks.now) (c.make_needed.ensures.still t told parents) ∙ sym was in
    c.in_err-find_folder_of_kept.ensures.fits mid.0 mid.1 (subst (λ (w : FileTree). is_folder (entry_at w (old_path c.args.project.now)) ≡ true) (sym same) old))

pub returns-in_err-find_folder_of_kept-clause-ready : goal.returns-in_err-find_folder_of_kept-clause-ready
returns-in_err-find_folder_of_kept-clause-ready g c = record {
  between = _;
  made = made_then_read _ _ _ _ _ c.find_folder_of_kept.ensures.only_read c.make_needed.ensures.makes;
  removed = removed_itself _ _;
}

pub returns-in_err-find_folder_of_kept-clause-cause : goal.returns-in_err-find_folder_of_kept-clause-cause
returns-in_err-find_folder_of_kept-clause-cause g c = λ path is.
    let p = err_from_is_err_and c.from_residual-in_err-find_folder_of_kept.result c.from_residual-in_err-find_folder_of_kept.ensures.1 in
    let given = p.1 in
    let from = p.2 in
    let found = c.in_err-find_folder_of_kept.ensures.other path cc in
    λ t told. subst (λ (at : List (List ℕ)). is_leaf (entry_at t at) ≡ true) (sym found.0)
    (found.1 t (sym c.find_folder_of_kept.ensures.only_read.told ∙ told)).1

pub returns-in_err-find_folder_of_kept-clause-never_vanished : goal.returns-in_err-find_folder_of_kept-clause-never_vanished
returns-in_err-find_folder_of_kept-clause-never_vanished g c =
    let p = err_from_is_err_and c.from_residual-in_err-find_folder_of_kept.result c.from_residual-in_err-find_folder_of_kept.ensures.1 in
    rw (p.1, p.2) (λ t told folder under number are old.
    let mid = told_still (g.T.Tree.meaning c.args.tree.now) (g.T.Tree.meaning c.make_needed.new.tree) t c.in_ok-make_needed.ensures.writes_none.tells told in
    let at = c.args.project.now ++ c.args.target.now.path in
    let was = (g.met.T.Tree.tells_its_disk c.args.tree.now t told).reads in
    let then = (g.met.T.Tree.tells_its_disk c.make_needed.new.tree mid.0 mid.1).reads in
    c.in_err-find_folder_of_kept.ensures.never_vanished mid.0 mid.1
    (ap is_some (made_old c.args.project.now number c.args.target.now c.args.places.now are t mid.0
    (subst (λ (w : FileTree). OnlyMade at t w) (sym then) (subst (λ (w : FileTree). OnlyMade at w (reading (g.T.Tree.meaning c.make_needed.new.tree).disks.now)) (sym was) c.make_needed.ensures.makes)))
    ∙ old))

pub returns-in_err-find_folder_of_kept-clause-stays : goal.returns-in_err-find_folder_of_kept-clause-stays
returns-in_err-find_folder_of_kept-clause-stays g c = λ path is. made_then_read _ _ _ _ _ c.find_folder_of_kept.ensures.only_read c.make_needed.ensures.makes

pub returns-in_err-make_needed-clause-blocked : goal.returns-in_err-make_needed-clause-blocked
returns-in_err-make_needed-clause-blocked g c = λ at is.
    let p = err_from_is_err_and c.from_residual.result c.from_residual.ensures.1 in
    let given = p.1 in
    let from = p.2 in
    let found = c.in_err-make_needed.ensures.above at cc in
    let cause = c.in_err-make_needed.ensures.cause at cc in
    λ t told number are.
    let head = c.args.project.now ++ c.args.target.now.path in
    let v = told_still (g.T.Tree.meaning c.args.tree.now) (g.T.Tree.meaning c.make_needed.new.tree) t c.make_needed.ensures.writes_none.tells told in
    let was = (g.met.T.Tree.tells_its_disk c.args.tree.now t told).reads in
    let then = (g.met.T.Tree.tells_its_disk c.make_needed.new.tree v.0 v.1).reads in
    let made : OnlyMade head t v.0 = subst (λ (w : FileTree). OnlyMade head t w) (sym then)
    (subst (λ (w : FileTree). OnlyMade head w (reading (g.T.Tree.meaning c.make_needed.new.tree).disks.now)) (sym was) c.make_needed.ensures.makes) in
    record {
      needed = inr (found.0, subst (IsThere t) are.staged_is (found.2 t told (ap is_root are.staged_is ∙ staged_under c.args.project.now number)), found.1);
      leaf = sym (made_leaf head at t v.0 made) ∙ cause v.0 v.1;
    }

pub returns-in_err-find_folder_of_kept-clause-blocked : goal.returns-in_err-find_folder_of_kept-clause-blocked
returns-in_err-find_folder_of_kept-clause-blocked g c = λ at is.
    let p = err_from_is_err_and c.from_residual-in_err-find_folder_of_kept.result c.from_residual-in_err-find_folder_of_kept.ensures.1 in
    let given = p.1 in
    let from = p.2 in
    let found = c.in_err-find_folder_of_kept.ensures.other at cc in
    λ t told number are.
    let project = c.args.project.now in
    let target = c.args.target.now in
    let head = project ++ target.path in
    let v = told_still (g.T.Tree.meaning c.args.tree.now) (g.T.Tree.meaning c.make_needed.new.tree) t c.in_ok-make_needed.ensures.writes_none.tells told in
    let was = (g.met.T.Tree.tells_its_disk c.args.tree.now t told).reads in
    let then = (g.met.T.Tree.tells_its_disk c.make_needed.new.tree v.0 v.1).reads in
    let made : OnlyMade head t v.0 = subst (λ (w : FileTree). OnlyMade head t w) (sym then)
    (subst (λ (w : FileTree). OnlyMade head w (reading (g.T.Tree.meaning c.make_needed.new.tree).disks.now)) (sym was) c.make_needed.ensures.makes) in
    let same = ap (λ (w : FileTree). map.get w head) then ∙ c.make_needed.ensures.misses ∙ ap (λ (w : FileTree). map.get w head) (sym was) in
    let shown = found.1 v.0 v.1 in
    blocked_then project number target v.0 t (needs_back project number target t v.0 (own_needs project number target c.args.places.now are t v.0 made same)) at
    (record {
      needed = inl (
        found.0,
        subst (λ p. is_kept target.gone (kind_at v.0 p) (kind_at v.0 (staged_path project number)) ≡ true) are.target_is
            (subst (λ p. is_kept target.gone (kind_at v.0 c.args.places.now.target) (kind_at v.0 p) ≡ true) are.staged_is shown.0),
      );
      leaf = ap (λ p. is_leaf (entry_at v.0 p)) found.0 ∙ shown.1;
    })

pub returns-clause-blocked : goal.returns-clause-blocked
returns-clause-blocked g c = λ at is. absurd (c.clear_kept.ensures.not_other at is)

pub returns-clause-free : goal.returns-clause-free
returns-clause-free g c = on_ok_weaker c.clear_kept.result
    (λ room t told folder number are at blocked.
    let project = c.args.project.now in
    let target = c.args.target.now in
    let head = project ++ target.path in
    let v = told_still (g.T.Tree.meaning c.args.tree.now) (g.T.Tree.meaning c.make_needed.new.tree) t c.in_ok-make_needed.ensures.writes_none.tells told in
    let was = (g.met.T.Tree.tells_its_disk c.args.tree.now t told).reads in
    let then = (g.met.T.Tree.tells_its_disk c.make_needed.new.tree v.0 v.1).reads in
    let made : OnlyMade head t v.0 = subst (λ (w : FileTree). OnlyMade head t w) (sym then)
    (subst (λ (w : FileTree). OnlyMade head w (reading (g.T.Tree.meaning c.make_needed.new.tree).disks.now)) (sym was) c.make_needed.ensures.makes) in
    let same = ap (λ (w : FileTree). map.get w head) then ∙ c.make_needed.ensures.misses ∙ ap (λ (w : FileTree). map.get w head) (sym was) in
    let alike = own_needs project number target c.args.places.now are t v.0 made same in
    nothing_stops project number target v.0 (g.met.T.Tree.tells_trees c.make_needed.new.tree v.0 v.1)
    (λ kept. c.in_ok-find_folder_of_kept.ensures.folder v.0 v.1
    (subst (λ p. is_kept target.gone (kind_at v.0 p) (kind_at v.0 c.args.places.now.staged) ≡ true) (sym are.target_is)
    (subst (λ p. is_kept target.gone (kind_at v.0 (target_path project target)) (kind_at v.0 p) ≡ true) (sym are.staged_is) kept)))
    (λ goes staged. c.in_ok-make_needed.ensures.there t told folder (target_is_some target.path are.is_target) goes
    (subst (IsThere t) (sym are.staged_is) (ap is_some (sym alike.staged_same) ∙ staged)) v.0 v.1)
    at (blocked_then project number target t v.0 alike at blocked))
    c.clear_kept.ensures.room
