use Rattle.std.proofs.Common.{is_some, ◌≡◌, ◌∙◌, ◌++◌, true, ap, refl, sym, subst, inl, inr, arith}
use Rattle.tree_dev.specs.Projects.{file_at}
use Rattle.tree_dev.specs.Disk.{reading}
use Rattle.install_world.specs.Finishing.{FinishesAlike, StopsAt}
use Rattle.tree_dev.specs.Trees.{FileTree, entry_at}
use Rattle.std.proofs.lemmas.Bool.{cases_eq}
use Rattle.std.proofs.lemmas.Option.{slice_get_read, slice_get_within}
use Rattle.std.proofs.lemmas.Result.{err_from_is_err_and}
use Rattle.tree_dev.proofs.Stretches.{through_ends, through_from}
use Rattle.install_world.specs.InFlight.{IsPart, IsPartDone, old_path, target_path}
use Rattle.install_world.specs.Moving.{IsOnWay}
use Rattle.install_world.proofs.PartDone.{told_still}
use Rattle.install_world.proofs.FinishSteps.{alike_same, alike_then, stands_after, stands_target}
use Rattle.install_world.proofs.PartFinish.{last_done, steps_then}
use Rattle.install_world.proofs.RemovalRules.{writes_none_on, writes_none_start}
use Rattle.install_world.proofs.FoldersThere.{path_of_part}
use Rattle.install_world.proofs.FinishStops.{made_leaves, made_stays, stops_at}
use Rattle.std.proofs.Common.{ℕ}
use Rattle.install_world.specs.Blocked.{IsBlocked, NeedsAlike}
use Rattle.install_world.specs.Targets.{AreTargetPaths}
use Rattle.install_world.specs.declared.target.Target.{Target}
use Rattle.install_world.proofs.BlockedParts.{blocked_then, needs_back, needs_itself, needs_on, part_is}
use Rattle.install_world.proofs.FoldersThere.{stands_paths}
use Rattle.install_world.proofs.parts.finish_parts.Goals as goal

pub targets-init : goal.targets-init
targets-init g c = record {
  writes_none = writes_none_start _;
  through = λ t told whole way same all each. through_from (IsOnWay way) _ each;
  done = λ t told journal all stands j other below there. absurd (omega arith);
  free = λ t told journal all stands old j other below there at blocked. omega (arith, below);
  needs = λ t told journal all stands j other behind there.
      subst (λ (w : FileTree). NeedsAlike c.args.project.now j other t w) (g.met.T.Tree.tells_its_disk c.args.tree.now t told).reads (needs_itself c.args.project.now j other t);
  left = λ t told journal all stands j other behind there below.
      ap (λ (w : FileTree). file_at w (target_path c.args.project.now other ++ below)) (sym (g.met.T.Tree.tells_its_disk c.args.tree.now t told).reads);
  old = λ t told paths stands. subst (λ (w : FileTree). is_some (entry_at w (old_path c.args.project.now)) ≡ true) (g.met.T.Tree.tells_its_disk c.args.tree.now t told).reads stands;
  alike = λ t told journal all stands. alike_same c.args.project.now journal t _ (sym (g.met.T.Tree.tells_its_disk c.args.tree.now t told).reads);
}

pub returns-in_err-finish_part-clause-writes_none : goal.returns-in_err-finish_part-clause-writes_none
returns-in_err-finish_part-clause-writes_none g c =
    let p = err_from_is_err_and c.from_residual.result c.from_residual.ensures.1 in
    rw (p.1, p.2) (writes_none_on _ _ _ _ c.in_err-finish_part.ensures.writes_none c.targets.invariant.writes_none)

pub returns-in_err-finish_part-clause-through : goal.returns-in_err-finish_part-clause-through
returns-in_err-finish_part-clause-through g c = λ t told whole way same all each.
    let part = slice_get_read c.args.targets.now _ c.targets.number c.index-targets-number.result refl (omega arith) c.index-targets-number.is in
    steps_then way _ _ _ t told c.targets.invariant.writes_none.tells (c.targets.invariant.through t told whole way same all each)
    (λ u now. c.finish_part.ensures.through u now (c.targets.invariant.writes_none.whole whole) way same
    (subst (λ targets. IsPart targets c.targets.number c.index-targets-number.result) (sym all) part))

pub targets-preserved : goal.targets-preserved
targets-preserved g c =
    let part = slice_get_read c.args.targets.now _ c.targets.number c.index-targets-number.result refl (omega arith) c.index-targets-number.is in
    record {
      writes_none = writes_none_on _ _ _ _ c.in_ok-finish_part.ensures.writes_none c.targets.invariant.writes_none;
      through = λ t told whole way same all each.
          steps_then way _ _ _ t told c.targets.invariant.writes_none.tells (c.targets.invariant.through t told whole way same all each)
          (λ u now. c.finish_part.ensures.through u now (c.targets.invariant.writes_none.whole whole) way same
          (subst (λ targets. IsPart targets c.targets.number c.index-targets-number.result) (sym all) part));
      done = λ t told journal all stands j other below there.
          let here = g.T.Tree.meaning c.targets.tree in
          let now = told_still (g.T.Tree.meaning c.args.tree.now) here t c.targets.invariant.writes_none.tells told in
          let disk = g.met.T.Tree.tells_its_disk c.targets.tree now.0 now.1 in
          let then = stands_after c.args.project.now journal t now.0 here disk stands (c.targets.invariant.alike t told journal all stands) in
          let mine = subst (λ targets. IsPart targets c.targets.number c.index-targets-number.result) (sym all) part in
          elim (cases_eq c.targets.number j) [
            | inl is ↦ last_done c.args.targets.now c.targets.number j c.index-targets-number.result other c.args.project.now _ is part there
                (c.in_ok-finish_part.ensures.done now.0 now.1 (stands_target c.args.project.now journal now.0 then c.targets.number c.index-targets-number.result mine))
            | inr differs ↦ c.in_ok-finish_part.ensures.others now.0 now.1 journal then mine j other differs
                (subst (λ targets. IsPart targets j other) (sym all) there)
                (subst (IsPartDone other.gone c.args.project.now j other) (sym disk.reads)
                (c.targets.invariant.done t told journal all stands j other (omega (arith, below, differs)) there))
          ];
      alike = λ t told journal all stands.
          let here = g.T.Tree.meaning c.targets.tree in
          let now = told_still (g.T.Tree.meaning c.args.tree.now) here t c.targets.invariant.writes_none.tells told in
          let disk = g.met.T.Tree.tells_its_disk c.targets.tree now.0 now.1 in
          let mine = subst (λ targets. IsPart targets c.targets.number c.index-targets-number.result) (sym all) part in
          alike_then c.args.project.now journal t now.0 _ here disk (c.targets.invariant.alike t told journal all stands) stands
          (λ then. c.finish_part.ensures.alike now.0 now.1 journal then mine);
      left = λ t told journal all stands j other behind there below.
          let here = g.T.Tree.meaning c.targets.tree in
          let now = told_still (g.T.Tree.meaning c.args.tree.now) here t c.targets.invariant.writes_none.tells told in
          let disk = g.met.T.Tree.tells_its_disk c.targets.tree now.0 now.1 in
          let then = stands_after c.args.project.now journal t now.0 here disk stands (c.targets.invariant.alike t told journal all stands) in
          let mine = subst (λ targets. IsPart targets c.targets.number c.index-targets-number.result) (sym all) part in
          c.finish_part.ensures.leaves now.0 now.1 journal then mine j other (λ same. omega (arith, behind, same)) (subst (λ targets. IsPart targets j other) (sym all) there) below
          ∙ ap (λ (w : FileTree). file_at w (target_path c.args.project.now other ++ below)) disk.reads
          ∙ c.targets.invariant.left t told journal all stands j other (omega (arith, behind)) there below;
      free = λ t told journal all stands old j other below there at blocked.
          let here = g.T.Tree.meaning c.targets.tree in
          let now = told_still (g.T.Tree.meaning c.args.tree.now) here t c.targets.invariant.writes_none.tells told in
          let disk = g.met.T.Tree.tells_its_disk c.targets.tree now.0 now.1 in
          let then = stands_after c.args.project.now journal t now.0 here disk stands (c.targets.invariant.alike t told journal all stands) in
          let mine = subst (λ targets. IsPart targets c.targets.number c.index-targets-number.result) (sym all) part in
          let paths = stands_paths c.args.project.now journal t stands in
          elim (cases_eq c.targets.number j) [
            | inl is ↦
                let same = part_is c.args.targets.now c.targets.number j c.index-targets-number.result other is part there in
                let needs = subst (λ (w : FileTree). NeedsAlike c.args.project.now c.targets.number c.index-targets-number.result t w) (sym disk.reads)
                (c.targets.invariant.needs t told journal all stands c.targets.number c.index-targets-number.result (omega arith) part) in
                c.in_ok-finish_part.ensures.free now.0 now.1 (stands_target c.args.project.now journal now.0 then c.targets.number c.index-targets-number.result mine)
                (ap (λ (w : FileTree). is_some (entry_at w (old_path c.args.project.now))) disk.reads
                ∙ c.targets.invariant.old t told (subst AreTargetPaths all paths) old)
                at (blocked_then c.args.project.now c.targets.number c.index-targets-number.result t now.0 needs at
                (subst (λ (x : Target). IsBlocked c.args.project.now c.targets.number x t at) (sym same) (subst (λ (n : ℕ). IsBlocked c.args.project.now n other t at) (sym is) blocked)))
            | inr differs ↦ c.targets.invariant.free t told journal all stands old j other (omega (arith, below, differs)) there at blocked
          ];
      needs = λ t told journal all stands j other behind there.
          let here = g.T.Tree.meaning c.targets.tree in
          let now = told_still (g.T.Tree.meaning c.args.tree.now) here t c.targets.invariant.writes_none.tells told in
          let disk = g.met.T.Tree.tells_its_disk c.targets.tree now.0 now.1 in
          let then = stands_after c.args.project.now journal t now.0 here disk stands (c.targets.invariant.alike t told journal all stands) in
          let mine = subst (λ targets. IsPart targets c.targets.number c.index-targets-number.result) (sym all) part in
          needs_on c.args.project.now j other t now.0 _
          (subst (λ (w : FileTree). NeedsAlike c.args.project.now j other t w) (sym disk.reads) (c.targets.invariant.needs t told journal all stands j other (omega (arith, behind)) there))
          (c.finish_part.ensures.needs now.0 now.1 journal then mine j other (λ same. omega (arith, behind, same)) (subst (λ targets. IsPart targets j other) (sym all) there));
      old = λ t told paths stands.
          let here = g.T.Tree.meaning c.targets.tree in
          let now = told_still (g.T.Tree.meaning c.args.tree.now) here t c.targets.invariant.writes_none.tells told in
          c.finish_part.ensures.old now.0 now.1 (path_of_part c.args.targets.now c.targets.number c.index-targets-number.result paths part)
          (subst (λ (w : FileTree). is_some (entry_at w (old_path c.args.project.now)) ≡ true) (sym (g.met.T.Tree.tells_its_disk c.targets.tree now.0 now.1).reads)
          (c.targets.invariant.old t told paths stands));
    }

pub returns-clause-done : goal.returns-clause-done
returns-clause-done g c = λ t told journal all stands. record {
  each = λ number target part. c.targets.invariant.done t told journal all stands number target
      (let inside = slice_get_within c.args.targets.now number target part in omega arith) part;
}

pub returns-in_err-finish_part-clause-fits : goal.returns-in_err-finish_part-clause-fits
returns-in_err-finish_part-clause-fits g c =
    let p = err_from_is_err_and c.from_residual.result c.from_residual.ensures.1 in
    rw (p.1, p.2) (λ t told whole way same all each.
    let part = slice_get_read c.args.targets.now _ c.targets.number c.index-targets-number.result refl (omega arith) c.index-targets-number.is in
    let before = g.T.Tree.meaning c.args.tree.now in
    let here = g.T.Tree.meaning c.targets.tree in
    let now = told_still before here t c.targets.invariant.writes_none.tells told in
    c.in_err-finish_part.ensures.fits now.0 now.1 (c.targets.invariant.writes_none.whole whole) way same
    (subst (λ targets. IsPart targets c.targets.number c.index-targets-number.result) (sym all) part)
    (through_ends (IsOnWay way) before here (c.targets.invariant.through t told whole way same all each)))

pub returns-in_err-finish_part-clause-alike : goal.returns-in_err-finish_part-clause-alike
returns-in_err-finish_part-clause-alike g c = λ t told journal all stands.
    let part = slice_get_read c.args.targets.now _ c.targets.number c.index-targets-number.result refl (omega arith) c.index-targets-number.is in
    let here = g.T.Tree.meaning c.targets.tree in
    let now = told_still (g.T.Tree.meaning c.args.tree.now) here t c.targets.invariant.writes_none.tells told in
    let mine = subst (λ targets. IsPart targets c.targets.number c.index-targets-number.result) (sym all) part in
    alike_then c.args.project.now journal t now.0 _ here (g.met.T.Tree.tells_its_disk c.targets.tree now.0 now.1) (c.targets.invariant.alike t told journal all stands) stands
    (λ then. c.finish_part.ensures.alike now.0 now.1 journal then mine)

pub returns-in_err-finish_part-clause-cause : goal.returns-in_err-finish_part-clause-cause
returns-in_err-finish_part-clause-cause g c = λ path is.
    let p = err_from_is_err_and c.from_residual.result c.from_residual.ensures.1 in
    let given = p.1 in
    let from = p.2 in
    c.in_err-finish_part.ensures.cause path cc

pub returns-clause-alike : goal.returns-clause-alike
returns-clause-alike g c = λ t told journal all stands. c.targets.invariant.alike t told journal all stands

pub returns-in_err-finish_part-clause-old : goal.returns-in_err-finish_part-clause-old
returns-in_err-finish_part-clause-old g c = λ t told paths stands.
    let part = slice_get_read c.args.targets.now _ c.targets.number c.index-targets-number.result refl (omega arith) c.index-targets-number.is in
    let here = g.T.Tree.meaning c.targets.tree in
    let now = told_still (g.T.Tree.meaning c.args.tree.now) here t c.targets.invariant.writes_none.tells told in
    c.finish_part.ensures.old now.0 now.1 (path_of_part c.args.targets.now c.targets.number c.index-targets-number.result paths part)
    (subst (λ (w : FileTree). is_some (entry_at w (old_path c.args.project.now)) ≡ true) (sym (g.met.T.Tree.tells_its_disk c.targets.tree now.0 now.1).reads)
    (c.targets.invariant.old t told paths stands))

pub returns-in_err-finish_part-clause-never_vanished : goal.returns-in_err-finish_part-clause-never_vanished
returns-in_err-finish_part-clause-never_vanished g c =
    let p = err_from_is_err_and c.from_residual.result c.from_residual.ensures.1 in
    rw (p.1, p.2) (λ t told paths stands.
    let part = slice_get_read c.args.targets.now _ c.targets.number c.index-targets-number.result refl (omega arith) c.index-targets-number.is in
    let here = g.T.Tree.meaning c.targets.tree in
    let now = told_still (g.T.Tree.meaning c.args.tree.now) here t c.targets.invariant.writes_none.tells told in
    c.in_err-finish_part.ensures.never_vanished now.0 now.1 (path_of_part c.args.targets.now c.targets.number c.index-targets-number.result paths part)
    (subst (λ (w : FileTree). is_some (entry_at w (old_path c.args.project.now)) ≡ true) (sym (g.met.T.Tree.tells_its_disk c.targets.tree now.0 now.1).reads)
    (c.targets.invariant.old t told paths stands)))

pub returns-clause-old : goal.returns-clause-old
returns-clause-old g c = λ t told paths stands. c.targets.invariant.old t told paths stands

pub returns-in_err-finish_part-clause-stops : goal.returns-in_err-finish_part-clause-stops
returns-in_err-finish_part-clause-stops g c = λ path is t told journal all stands.
    let p = err_from_is_err_and c.from_residual.result c.from_residual.ensures.1 in
    let given = p.1 in
    let from = p.2 in
    let part = slice_get_read c.args.targets.now _ c.targets.number c.index-targets-number.result refl (omega arith) c.index-targets-number.is in
    let project = c.args.project.now in
    let here = g.T.Tree.meaning c.targets.tree in
    let last = g.T.Tree.meaning c.finish_part.new.tree in
    let now = told_still (g.T.Tree.meaning c.args.tree.now) here t c.targets.invariant.writes_none.tells told in
    let then = told_still here last now.0 c.finish_part.ensures.writes_none.tells now.1 in
    let disk = g.met.T.Tree.tells_its_disk c.targets.tree now.0 now.1 in
    let end = g.met.T.Tree.tells_its_disk c.finish_part.new.tree then.0 then.1 in
    let before = c.targets.invariant.alike t told journal all stands in
    let standing = stands_after project journal t now.0 here disk stands before in
    let mine = subst (λ targets. IsPart targets c.targets.number c.index-targets-number.result) (sym all) part in
    let after = alike_then project journal t now.0 (reading last.disks.now) here disk before stands (λ s. c.finish_part.ensures.alike now.0 now.1 journal s mine) in
    let stopped = c.in_err-finish_part.ensures.stays path cc in (
      c.targets.number,
      subst (λ (w : FileTree). StopsAt project journal c.targets.number t w) end.reads
          (stops_at project journal t then.0 (stands_after project journal t then.0 last end stands after) (g.met.T.Tree.tells_trees c.finish_part.new.tree then.0 then.1)
          (subst (FinishesAlike project journal t) (sym end.reads) after) c.targets.number
          (λ j other below there. subst (IsPartDone other.gone project j other) (sym end.reads)
          (made_stays project journal c.targets.number j c.index-targets-number.result other now.0 standing mine there (λ same. omega (arith, below, same)) _ _ stopped disk.reads
          (c.targets.invariant.done t told journal all stands j other below (subst (λ targets. IsPart targets j other) all there))))
          (λ j other behind there below.
          ap (λ (w : FileTree). file_at w (target_path project other ++ below)) end.reads
          ∙ made_leaves (project ++ c.index-targets-number.result.path) (target_path project other ++ below) _ _ stopped
          ∙ c.targets.invariant.left t told journal all stands j other behind (subst (λ targets. IsPart targets j other) all there) below)),
    )

pub returns-clause-free : goal.returns-clause-free
returns-clause-free g c = λ t told journal all stands old j other there at blocked.
    c.targets.invariant.free t told journal all stands old j other (let inside = slice_get_within c.args.targets.now j other there in omega arith) there at blocked

pub returns-in_err-finish_part-clause-blocked : goal.returns-in_err-finish_part-clause-blocked
returns-in_err-finish_part-clause-blocked g c = λ at is.
    let p = err_from_is_err_and c.from_residual.result c.from_residual.ensures.1 in
    let given = p.1 in
    let from = p.2 in
    let found = c.in_err-finish_part.ensures.blocked at cc in
    λ t told journal all stands old.
    let part = slice_get_read c.args.targets.now _ c.targets.number c.index-targets-number.result refl (omega arith) c.index-targets-number.is in
    let project = c.args.project.now in
    let here = g.T.Tree.meaning c.targets.tree in
    let now = told_still (g.T.Tree.meaning c.args.tree.now) here t c.targets.invariant.writes_none.tells told in
    let disk = g.met.T.Tree.tells_its_disk c.targets.tree now.0 now.1 in
    let then = stands_after project journal t now.0 here disk stands (c.targets.invariant.alike t told journal all stands) in
    let mine = subst (λ targets. IsPart targets c.targets.number c.index-targets-number.result) (sym all) part in
    let needs = subst (λ (w : FileTree). NeedsAlike project c.targets.number c.index-targets-number.result t w) (sym disk.reads)
    (c.targets.invariant.needs t told journal all stands c.targets.number c.index-targets-number.result (omega arith) part) in
    record {
      number = c.targets.number;
      target = c.index-targets-number.result;
      part = part;
      blocked = blocked_then project c.targets.number c.index-targets-number.result now.0 t (needs_back project c.targets.number c.index-targets-number.result t now.0 needs) at
          (found now.0 now.1 (stands_target project journal now.0 then c.targets.number c.index-targets-number.result mine));
      before = λ j other less there path blocked. c.targets.invariant.free t told journal all stands old j other less there path blocked;
    }
