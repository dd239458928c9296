use Rattle.std.proofs.Common.{◌∙◌, ap, sym, subst}
use Rattle.std.proofs.lemmas.Result.{IfOk-weaker, err_from_is_err_and}
use Rattle.tree_dev.specs.Changes.{is_root}
use Rattle.tree_dev.specs.Disk.{reading}
use Rattle.tree_dev.proofs.Stretches.{through_then_through}
use Rattle.tree_dev.proofs.Whole.{whole_then_read}
use Rattle.install_world.specs.InFlight.{IsPartDone}
use Rattle.install_world.specs.Moving.{IsOnWay}
use Rattle.install_world.proofs.PartDone.{absent_staged, places_on, places_read, places_start}
use Rattle.install_world.proofs.RemovalRules.{writes_none_on, writes_none_read, writes_none_start}
use Rattle.install_world.proofs.WayMoves.{read_through, staged_under, there_by_kind}
use Rattle.install_world.proofs.PlacesFree.{file_by_kind, no_file_by_kind}
use Rattle.install_world.specs.Moving.{HasRoom}
use Rattle.install_world.proofs.FinishSteps.{alike_read}
use Rattle.install_world.proofs.moving.move_part.Goals as goal

pub returns-then-gone-clause-through : goal.returns-then-gone-clause-through
returns-then-gone-clause-through g c = λ t told whole way number target are part is each.
    c.take_away.ensures.through t told whole way number target are part (is ∙ c.if-gone.true) each

pub returns-then-gone-clause-done : goal.returns-then-gone-clause-done
returns-then-gone-clause-done g c = IfOk-weaker c.take_away.result _ _
    (λ did gone is t told project number target are.
    subst (λ mark. IsPartDone mark project number target (reading (g.T.Tree.meaning c.take_away.new.tree).disks.now)) (sym c.if-gone.true)
    (gone is t told project number target are))
    c.take_away.ensures.done

pub returns-in_err-stat-clause-writes_none : goal.returns-in_err-stat-clause-writes_none
returns-in_err-stat-clause-writes_none g c =
    let p = err_from_is_err_and c.from_residual.result c.from_residual.ensures.1 in
    rw p.1 (writes_none_read _ _ _ _ c.in_err-stat.ensures.only_read (writes_none_start _))

pub returns-in_err-stat-clause-moves : goal.returns-in_err-stat-clause-moves
returns-in_err-stat-clause-moves g c = places_read c.args.places.now _ _ _ _ c.stat.ensures.only_read (places_start c.args.places.now _)

pub returns-in_err-stat-clause-through : goal.returns-in_err-stat-clause-through
returns-in_err-stat-clause-through g c = λ t told whole way number target are part is each.
    read_through way number target c.args.places.now are part _ _ _ c.stat.ensures.only_read each

pub returns-in-Absent-clause-writes_none : goal.returns-in-Absent-clause-writes_none
returns-in-Absent-clause-writes_none g c = writes_none_read _ _ _ _ c.in_ok-stat.ensures.only_read (writes_none_start _)

pub returns-in-Absent-clause-moves : goal.returns-in-Absent-clause-moves
returns-in-Absent-clause-moves g c = places_read c.args.places.now _ _ _ _ c.stat.ensures.only_read (places_start c.args.places.now _)

pub returns-in-Absent-clause-through : goal.returns-in-Absent-clause-through
returns-in-Absent-clause-through g c = λ t told whole way number target are part is each.
    read_through way number target c.args.places.now are part _ _ _ c.stat.ensures.only_read each

pub returns-in-Absent-clause-done : goal.returns-in-Absent-clause-done
returns-in-Absent-clause-done g c = λ done t told project number target are.
    subst (λ mark. IsPartDone mark project number target (reading (g.T.Tree.meaning c.stat.new.self).disks.now)) (sym c.if-gone.false)
    (absent_staged project number target c.args.places.now are _ _ t _ c.in_ok-stat.field-0 (g.met.T.Tree.tells_its_disk c.args.tree.now t told)
    c.stat.ensures.only_read (c.in_ok-stat.ensures.kind t told) c.in-Absent.is)

pub returns-in-File-clause-writes_none : goal.returns-in-File-clause-writes_none
returns-in-File-clause-writes_none g c =
    writes_none_on _ _ _ _ c.put.ensures.writes_none (writes_none_read _ _ _ _ c.in_ok-stat.ensures.only_read (writes_none_start _))

pub returns-in-File-clause-moves : goal.returns-in-File-clause-moves
returns-in-File-clause-moves g c =
    places_on c.args.places.now _ _ _ c.put.ensures.moves (places_read c.args.places.now _ _ _ _ c.stat.ensures.only_read (places_start c.args.places.now _))

pub returns-in-File-clause-through : goal.returns-in-File-clause-through
returns-in-File-clause-through g c = λ t told whole way number target are part is each.
    through_then_through (IsOnWay way) _ _ _
    (c.put.ensures.through t (c.stat.ensures.only_read.told ∙ told) (whole_then_read _ _ _ c.stat.ensures.only_read whole) way number target are part (is ∙ c.if-gone.false)
    (there_by_kind t c.args.places.now.staged c.in_ok-stat.field-0 (ap is_root are.staged_is ∙ staged_under way.project number)
    (c.in_ok-stat.ensures.kind t told) (λ absent. let file = c.in-File.is in absurd cc)))
    (read_through way number target c.args.places.now are part _ _ _ c.stat.ensures.only_read each)

pub returns-in-File-clause-done : goal.returns-in-File-clause-done
returns-in-File-clause-done g c = IfOk-weaker c.put.result _ _
    (λ did gone is t told project number target are.
    subst (λ mark. IsPartDone mark project number target (reading (g.T.Tree.meaning c.put.new.tree).disks.now)) (sym c.if-gone.false)
    (gone is t (c.stat.ensures.only_read.told ∙ told) project number target are))
    c.put.ensures.done

pub returns-then-gone-clause-fits : goal.returns-then-gone-clause-fits
returns-then-gone-clause-fits g c = IfOk-weaker c.take_away.result _ _
    (λ answer placed t told project number target are folders is room.
    placed t told project number target are folders (is ∙ c.if-gone.true) (subst (λ mark. HasRoom mark c.args.places.now t) c.if-gone.true room))
    c.take_away.ensures.fits

pub returns-in-File-clause-fits : goal.returns-in-File-clause-fits
returns-in-File-clause-fits g c = IfOk-weaker c.put.result _ _
    (λ answer fits t told project number target are folders is room.
    fits t (c.stat.ensures.only_read.told ∙ told) project number target are folders (is ∙ c.if-gone.false)
    (there_by_kind t c.args.places.now.staged c.in_ok-stat.field-0 (ap is_root are.staged_is ∙ staged_under project number)
    (c.in_ok-stat.ensures.kind t told) (λ absent. let file = c.in-File.is in absurd cc))
    (sym (file_by_kind t c.args.places.now.staged c.in_ok-stat.field-0 (c.in_ok-stat.ensures.kind t told) c.in-File.is))
    (subst (λ mark. HasRoom mark c.args.places.now t) c.if-gone.false room))
    c.put.ensures.fits

pub returns-in_default-clause-writes_none : goal.returns-in_default-clause-writes_none
returns-in_default-clause-writes_none g c =
    writes_none_on _ _ _ _ c.put-in_default.ensures.writes_none (writes_none_read _ _ _ _ c.in_ok-stat.ensures.only_read (writes_none_start _))

pub returns-in_default-clause-moves : goal.returns-in_default-clause-moves
returns-in_default-clause-moves g c =
    places_on c.args.places.now _ _ _ c.put-in_default.ensures.moves (places_read c.args.places.now _ _ _ _ c.stat.ensures.only_read (places_start c.args.places.now _))

pub returns-in_default-clause-through : goal.returns-in_default-clause-through
returns-in_default-clause-through g c = λ t told whole way number target are part is each.
    through_then_through (IsOnWay way) _ _ _
    (c.put-in_default.ensures.through t (c.stat.ensures.only_read.told ∙ told) (whole_then_read _ _ _ c.stat.ensures.only_read whole) way number target are part (is ∙ c.if-gone.false)
    (there_by_kind t c.args.places.now.staged c.in_ok-stat.field-0 (ap is_root are.staged_is ∙ staged_under way.project number)
    (c.in_ok-stat.ensures.kind t told) c.in_default.not-Absent))
    (read_through way number target c.args.places.now are part _ _ _ c.stat.ensures.only_read each)

pub returns-in_default-clause-done : goal.returns-in_default-clause-done
returns-in_default-clause-done g c = IfOk-weaker c.put-in_default.result _ _
    (λ did gone is t told project number target are.
    subst (λ mark. IsPartDone mark project number target (reading (g.T.Tree.meaning c.put-in_default.new.tree).disks.now)) (sym c.if-gone.false)
    (gone is t (c.stat.ensures.only_read.told ∙ told) project number target are))
    c.put-in_default.ensures.done

pub returns-in_default-clause-fits : goal.returns-in_default-clause-fits
returns-in_default-clause-fits g c = IfOk-weaker c.put-in_default.result _ _
    (λ answer fits t told project number target are folders is room.
    fits t (c.stat.ensures.only_read.told ∙ told) project number target are folders (is ∙ c.if-gone.false)
    (there_by_kind t c.args.places.now.staged c.in_ok-stat.field-0 (ap is_root are.staged_is ∙ staged_under project number)
    (c.in_ok-stat.ensures.kind t told) c.in_default.not-Absent)
    (sym (no_file_by_kind t c.args.places.now.staged c.in_ok-stat.field-0 (c.in_ok-stat.ensures.kind t told) c.in_default.not-File))
    (subst (λ mark. HasRoom mark c.args.places.now t) c.if-gone.false room))
    c.put-in_default.ensures.fits

pub returns-then-gone-clause-alike : goal.returns-then-gone-clause-alike
returns-then-gone-clause-alike g c = λ t told project journal number target are part is stands.
    c.take_away.ensures.alike t told project journal number target are part (is ∙ c.if-gone.true) stands

pub returns-in_err-stat-clause-alike : goal.returns-in_err-stat-clause-alike
returns-in_err-stat-clause-alike g c = λ t told project journal number target are part is stands.
    alike_read project journal _ _ t _ (g.met.T.Tree.tells_its_disk c.args.tree.now t told) c.stat.ensures.only_read

pub returns-in-Absent-clause-alike : goal.returns-in-Absent-clause-alike
returns-in-Absent-clause-alike g c = λ t told project journal number target are part is stands.
    alike_read project journal _ _ t _ (g.met.T.Tree.tells_its_disk c.args.tree.now t told) c.stat.ensures.only_read

pub returns-in-File-clause-alike : goal.returns-in-File-clause-alike
returns-in-File-clause-alike g c = λ t told project journal number target are part is stands.
    c.put.ensures.alike t (c.stat.ensures.only_read.told ∙ told) project journal number target are part (is ∙ c.if-gone.false)
    (there_by_kind t c.args.places.now.staged c.in_ok-stat.field-0 (ap is_root are.staged_is ∙ staged_under project number)
    (c.in_ok-stat.ensures.kind t told) (λ absent. let file = c.in-File.is in absurd cc)) stands

pub returns-in_default-clause-alike : goal.returns-in_default-clause-alike
returns-in_default-clause-alike g c = λ t told project journal number target are part is stands.
    c.put-in_default.ensures.alike t (c.stat.ensures.only_read.told ∙ told) project journal number target are part (is ∙ c.if-gone.false)
    (there_by_kind t c.args.places.now.staged c.in_ok-stat.field-0 (ap is_root are.staged_is ∙ staged_under project number)
    (c.in_ok-stat.ensures.kind t told) c.in_default.not-Absent) stands
