use Rattle.std.proofs.Common.{refl, ◌∙◌}
use Rattle.std.proofs.lemmas.Result.{IfOk-weaker, err_from_is_err_and}
use Rattle.tree_dev.proofs.Whole.{whole_then_read}
use Rattle.install_world.proofs.PartDone.{absent_target, places_read, places_start, places_take, taken_is_done}
use Rattle.install_world.proofs.RemovalRules.{cause_of, writes_none_change, writes_none_read, writes_none_start}
use Rattle.install_world.proofs.WayMoves.{gone_through, read_through}
use Rattle.tree_dev.specs.declared.change.Change.TheVariants as changes
use Rattle.std.proofs.Common.{inl}
use Rattle.install_world.proofs.PartCleared.{places_under}
use Rattle.install_world.proofs.PlacesFree.{placed_is_done, take_has_place}
use Rattle.install_world.proofs.WayMoves.{there_by_kind}
use Rattle.install_world.proofs.FinishSteps.{alike_read, alike_taken, reads_then}
use Rattle.std.proofs.Common.{ap}
use Rattle.tree_dev.specs.Trees.{kind_at}
use Rattle.install_world.specs.InFlight.{staged_path, target_path}
use Rattle.install_world.proofs.KeptParts.{gone_is_kept}
use Rattle.install_world.proofs.moving.take_away.Goals as goal

pub returns-in_err-stat-clause-writes_none : goal.returns-in_err-stat-clause-writes_none
returns-in_err-stat-clause-writes_none g c =
    let p = err_from_is_err_and c.from_residual.result c.from_residual.ensures.1 in
    rw p.1 (writes_none_read _ _ _ _ c.in_err-stat.ensures.only_read (writes_none_start _))

pub returns-in_err-stat-clause-moves : goal.returns-in_err-stat-clause-moves
returns-in_err-stat-clause-moves g c = places_read c.args.places.now _ _ _ _ c.stat.ensures.only_read (places_start c.args.places.now _)

pub returns-in_err-stat-clause-through : goal.returns-in_err-stat-clause-through
returns-in_err-stat-clause-through g c = λ t told whole way number target are part gone each.
    read_through way number target c.args.places.now are part _ _ _ c.stat.ensures.only_read each

pub returns-in-Absent-clause-writes_none : goal.returns-in-Absent-clause-writes_none
returns-in-Absent-clause-writes_none g c = writes_none_read _ _ _ _ c.in_ok-stat.ensures.only_read (writes_none_start _)

pub returns-in-Absent-clause-moves : goal.returns-in-Absent-clause-moves
returns-in-Absent-clause-moves g c = places_read c.args.places.now _ _ _ _ c.stat.ensures.only_read (places_start c.args.places.now _)

pub returns-in-Absent-clause-through : goal.returns-in-Absent-clause-through
returns-in-Absent-clause-through g c = λ t told whole way number target are part gone each.
    read_through way number target c.args.places.now are part _ _ _ c.stat.ensures.only_read each

pub returns-in-Absent-clause-done : goal.returns-in-Absent-clause-done
returns-in-Absent-clause-done g c = λ done t told project number target are.
    absent_target project number target c.args.places.now are _ _ t _ c.in_ok-stat.field-0 (g.met.T.Tree.tells_its_disk c.args.tree.now t told)
    c.stat.ensures.only_read (c.in_ok-stat.ensures.kind t told) c.in-Absent.is

pub returns-in_default-clause-writes_none : goal.returns-in_default-clause-writes_none
returns-in_default-clause-writes_none g c =
    writes_none_change _ _ _ _ _ c.rename.ensures.moments refl c.rename.ensures.counts (cause_of c.rename.result c.rename.ensures.cause)
    (writes_none_read _ _ _ _ c.in_ok-stat.ensures.only_read (writes_none_start _))

pub returns-in_default-clause-moves : goal.returns-in_default-clause-moves
returns-in_default-clause-moves g c =
    places_take c.args.places.now _ _ _ c.rename.ensures.moments (places_read c.args.places.now _ _ _ _ c.stat.ensures.only_read (places_start c.args.places.now _))

pub returns-in_default-clause-through : goal.returns-in_default-clause-through
returns-in_default-clause-through g c = λ t told whole way number target are part gone each.
    gone_through way number target c.args.places.now are part _ _ _ gone (whole_then_read _ _ _ c.stat.ensures.only_read whole) c.rename.ensures.moments
    (read_through way number target c.args.places.now are part _ _ _ c.stat.ensures.only_read each)

pub returns-in_default-clause-done : goal.returns-in_default-clause-done
returns-in_default-clause-done g c = IfOk-weaker c.rename.result _ _
    (λ did adds is t told project number target are.
    taken_is_done project number target c.args.places.now are _ _ (adds is t (c.stat.ensures.only_read.told ∙ told)))
    c.rename.ensures.done

pub returns-in_default-clause-fits : goal.returns-in_default-clause-fits
returns-in_default-clause-fits g c = IfOk-weaker c.rename.result _ _
    (λ answer is t told project number target are folders goes room.
    let there = there_by_kind t c.args.places.now.target c.in_ok-stat.field-0 (places_under project number target c.args.places.now are)
    (c.in_ok-stat.ensures.kind t told) c.in_default.not-Absent in
    placed_is_done t (changes.Renamed c.args.places.now.target c.args.places.now.kept) answer (is t (c.stat.ensures.only_read.told ∙ told))
    (take_has_place project number target c.args.places.now are t
    (folders.old_folder (gone_is_kept target.gone (kind_at t (target_path project target)) (kind_at t (staged_path project number)) goes
    (λ absent. c.in_default.not-Absent (c.in_ok-stat.ensures.kind t told ∙ ap (kind_at t) are.target_is ∙ absent))))
    there (room.free there (inl refl))))
    c.rename.ensures.answer

pub returns-in_err-stat-clause-alike : goal.returns-in_err-stat-clause-alike
returns-in_err-stat-clause-alike g c = λ t told project journal number target are part gone stands.
    alike_read project journal _ _ t _ (g.met.T.Tree.tells_its_disk c.args.tree.now t told) c.stat.ensures.only_read

pub returns-in-Absent-clause-alike : goal.returns-in-Absent-clause-alike
returns-in-Absent-clause-alike g c = λ t told project journal number target are part gone stands.
    alike_read project journal _ _ t _ (g.met.T.Tree.tells_its_disk c.args.tree.now t told) c.stat.ensures.only_read

pub returns-in_default-clause-alike : goal.returns-in_default-clause-alike
returns-in_default-clause-alike g c = λ t told project journal number target are part gone stands.
    alike_taken project journal number target c.args.places.now are part t stands _ _ c.rename.ensures.moments
    (reads_then _ _ t _ (g.met.T.Tree.tells_its_disk c.args.tree.now t told) c.stat.ensures.only_read) (inl gone)
