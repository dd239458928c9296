use Rattle.std.proofs.Common.{◌≡◌, ◌∙◌, ◌++◌, true, ap, refl, sym, subst}
use Rattle.tree_dev.specs.Projects.{file_at}
use Rattle.tree_dev.specs.Trees.{FileTree, entry_at, is_folder}
use Rattle.std.proofs.lemmas.Result.{err_from_is_err_and}
use Rattle.tree_dev.proofs.Stretches.{through_from}
use Rattle.install_world.specs.Moving.{ArePlaces, IsOnWay}
use Rattle.install_world.proofs.PartDone.{told_still}
use Rattle.tree_dev.specs.Disk.{reading}
use Rattle.install_world.specs.InFlight.{IsPartDone, old_path, target_path}
use Rattle.install_world.proofs.FinishSteps.{alike_ready, alike_same, alike_then, ready_done, stands_apart, stands_number, stands_target}
use Rattle.install_world.proofs.PartFinish.{done_then_moved, steps_then, way_folders, way_reads, way_target}
use Rattle.install_world.proofs.RemovalRules.{writes_none_on, writes_none_start}
use Rattle.tree_dev.proofs.Stretches.{through_ends}
use Rattle.install_world.proofs.RoomMade.{kept_is_under}
use Rattle.install_world.proofs.PartFinish.{parents_are}
use Rattle.install_world.proofs.FoldersThere.{old_moved, old_prepared, old_project}
use Rattle.install_world.proofs.FinishStops.{moves_leave, ready_leaves}
use Rattle.std.proofs.Common.{List, ℕ, is_some}
use Rattle.install_world.proofs.PartFinish.{way_old_folder}
use Rattle.install_world.specs.Blocked.{NeedsAlike}
use Rattle.install_world.proofs.BlockedParts.{moved_needs, needs_itself, needs_on, ready_needs}
use Rattle.install_world.proofs.parts.finish_part.Goals as goal

pub returns-in_err-places-clause-writes_none : goal.returns-in_err-places-clause-writes_none
returns-in_err-places-clause-writes_none g c = let p = err_from_is_err_and c.from_residual.result c.from_residual.ensures.1 in rw (p.1, p.2) (writes_none_start _)

pub returns-in_err-places-clause-through : goal.returns-in_err-places-clause-through
returns-in_err-places-clause-through g c = λ t told whole way same part each. through_from (IsOnWay way) _ each

pub returns-in_err-prepare_part-clause-writes_none : goal.returns-in_err-prepare_part-clause-writes_none
returns-in_err-prepare_part-clause-writes_none g c =
    let p = err_from_is_err_and c.from_residual-in_err-prepare_part.result c.from_residual-in_err-prepare_part.ensures.1 in
    rw (p.1, p.2) c.in_err-prepare_part.ensures.writes_none

pub returns-in_err-prepare_part-clause-through : goal.returns-in_err-prepare_part-clause-through
returns-in_err-prepare_part-clause-through g c = λ t told whole way same part each.
    let on = way_reads way (g.T.Tree.meaning c.args.tree.now) t (g.met.T.Tree.tells_its_disk c.args.tree.now t told) each in
    c.prepare_part.ensures.through t told way c.args.number same (c.in_ok-places.ensures (way_target way t on c.args.number c.args.target.now part)) part each

pub returns-in_err-move_part-clause-through : goal.returns-in_err-move_part-clause-through
returns-in_err-move_part-clause-through g c = λ t told whole way same part each.
    let on = way_reads way (g.T.Tree.meaning c.args.tree.now) t (g.met.T.Tree.tells_its_disk c.args.tree.now t told) each in
    let are = c.in_ok-places.ensures (way_target way t on c.args.number c.args.target.now part) in
    steps_then way _ _ _ t told c.prepare_part.ensures.writes_none.tells (c.prepare_part.ensures.through t told way c.args.number same are part each)
    (λ u now. c.move_part.ensures.through u now (c.prepare_part.ensures.writes_none.whole whole) way c.args.number c.args.target.now
    (subst (λ p. ArePlaces p c.args.number c.args.target.now c.in_ok-places.places) (sym same) are) part refl)

pub returns-in-Done-clause-through : goal.returns-in-Done-clause-through
returns-in-Done-clause-through g c = λ t told whole way same part each.
    let on = way_reads way (g.T.Tree.meaning c.args.tree.now) t (g.met.T.Tree.tells_its_disk c.args.tree.now t told) each in
    let are = c.in_ok-places.ensures (way_target way t on c.args.number c.args.target.now part) in
    steps_then way _ _ _ t told c.prepare_part.ensures.writes_none.tells (c.prepare_part.ensures.through t told way c.args.number same are part each)
    (λ u now. c.move_part.ensures.through u now (c.prepare_part.ensures.writes_none.whole whole) way c.args.number c.args.target.now
    (subst (λ p. ArePlaces p c.args.number c.args.target.now c.in_ok-places.places) (sym same) are) part refl)

pub returns-in-Misplaced-clause-through : goal.returns-in-Misplaced-clause-through
returns-in-Misplaced-clause-through g c = λ t told whole way same part each.
    let on = way_reads way (g.T.Tree.meaning c.args.tree.now) t (g.met.T.Tree.tells_its_disk c.args.tree.now t told) each in
    let are = c.in_ok-places.ensures (way_target way t on c.args.number c.args.target.now part) in
    steps_then way _ _ _ t told c.prepare_part.ensures.writes_none.tells (c.prepare_part.ensures.through t told way c.args.number same are part each)
    (λ u now. c.move_part.ensures.through u now (c.prepare_part.ensures.writes_none.whole whole) way c.args.number c.args.target.now
    (subst (λ p. ArePlaces p c.args.number c.args.target.now c.in_ok-places.places) (sym same) are) part refl)

pub returns-in_err-move_part-clause-writes_none : goal.returns-in_err-move_part-clause-writes_none
returns-in_err-move_part-clause-writes_none g c =
    let p = err_from_is_err_and c.from_residual-in_err-move_part.result c.from_residual-in_err-move_part.ensures.1 in
    rw (p.1, p.2) (writes_none_on _ _ _ _ c.in_err-move_part.ensures.writes_none c.in_ok-prepare_part.ensures.writes_none)

pub returns-in-Done-clause-writes_none : goal.returns-in-Done-clause-writes_none
returns-in-Done-clause-writes_none g c = writes_none_on _ _ _ _ c.in_ok-move_part.ensures.writes_none c.in_ok-prepare_part.ensures.writes_none

pub returns-in-Misplaced-clause-writes_none : goal.returns-in-Misplaced-clause-writes_none
returns-in-Misplaced-clause-writes_none g c = writes_none_on _ _ _ _ c.in_ok-move_part.ensures.writes_none c.in_ok-prepare_part.ensures.writes_none

pub returns-in-Done-clause-done : goal.returns-in-Done-clause-done
returns-in-Done-clause-done g c = λ t told is.
    let now = told_still (g.T.Tree.meaning c.args.tree.now) (g.T.Tree.meaning c.prepare_part.new.tree) t c.prepare_part.ensures.writes_none.tells told in
    c.in_ok-move_part.ensures.done c.in-Done.is now.0 now.1 c.args.project.now c.args.number c.args.target.now (c.in_ok-places.ensures is)

pub returns-in-Done-clause-others : goal.returns-in-Done-clause-others
returns-in-Done-clause-others g c = λ t told journal stands part j other differs there done.
    let are = c.in_ok-places.ensures (stands_target c.args.project.now journal t stands c.args.number c.args.target.now part) in
    let apart = stands_apart c.args.project.now journal t stands c.args.number j c.args.target.now other differs part there in
    let disk = g.met.T.Tree.tells_its_disk c.args.tree.now t told in
    done_then_moved c.args.project.now c.args.number j c.args.target.now other c.in_ok-places.places are (stands_target c.args.project.now journal t stands j other there)
    (stands_number c.args.project.now journal t stands c.args.number c.args.target.now part) (stands_number c.args.project.now journal t stands j other there) differs
    apart _ _ c.move_part.ensures.moves other.gone
    (ready_done c.args.project.now c.args.number c.args.target.now c.in_ok-places.places are _ _ c.prepare_part.ensures.ready other.gone j other apart
    (subst (IsPartDone other.gone c.args.project.now j other) disk.reads done))

pub returns-in_err-places-clause-alike : goal.returns-in_err-places-clause-alike
returns-in_err-places-clause-alike g c = λ t told journal stands part.
    alike_same c.args.project.now journal t _ (sym (g.met.T.Tree.tells_its_disk c.args.tree.now t told).reads)

pub returns-in_err-prepare_part-clause-alike : goal.returns-in_err-prepare_part-clause-alike
returns-in_err-prepare_part-clause-alike g c = λ t told journal stands part.
    alike_ready c.args.project.now c.args.number c.args.target.now c.in_ok-places.places
    (c.in_ok-places.ensures (stands_target c.args.project.now journal t stands c.args.number c.args.target.now part)) journal t _ (g.T.Tree.meaning c.args.tree.now)
    (g.met.T.Tree.tells_its_disk c.args.tree.now t told) c.prepare_part.ensures.ready

pub returns-in_err-move_part-clause-alike : goal.returns-in_err-move_part-clause-alike
returns-in_err-move_part-clause-alike g c = λ t told journal stands part.
    let are = c.in_ok-places.ensures (stands_target c.args.project.now journal t stands c.args.number c.args.target.now part) in
    let second = g.T.Tree.meaning c.prepare_part.new.tree in
    let now = told_still (g.T.Tree.meaning c.args.tree.now) second t c.prepare_part.ensures.writes_none.tells told in
    let first = alike_ready c.args.project.now c.args.number c.args.target.now c.in_ok-places.places are journal t (reading second.disks.now) (g.T.Tree.meaning c.args.tree.now)
    (g.met.T.Tree.tells_its_disk c.args.tree.now t told) c.prepare_part.ensures.ready in
    alike_then c.args.project.now journal t now.0 _ second (g.met.T.Tree.tells_its_disk c.prepare_part.new.tree now.0 now.1) first stands
    (λ then. c.move_part.ensures.alike now.0 now.1 c.args.project.now journal c.args.number c.args.target.now are part refl then)

pub returns-in-Done-clause-alike : goal.returns-in-Done-clause-alike
returns-in-Done-clause-alike g c = λ t told journal stands part.
    let are = c.in_ok-places.ensures (stands_target c.args.project.now journal t stands c.args.number c.args.target.now part) in
    let second = g.T.Tree.meaning c.prepare_part.new.tree in
    let now = told_still (g.T.Tree.meaning c.args.tree.now) second t c.prepare_part.ensures.writes_none.tells told in
    let first = alike_ready c.args.project.now c.args.number c.args.target.now c.in_ok-places.places are journal t (reading second.disks.now) (g.T.Tree.meaning c.args.tree.now)
    (g.met.T.Tree.tells_its_disk c.args.tree.now t told) c.prepare_part.ensures.ready in
    alike_then c.args.project.now journal t now.0 _ second (g.met.T.Tree.tells_its_disk c.prepare_part.new.tree now.0 now.1) first stands
    (λ then. c.move_part.ensures.alike now.0 now.1 c.args.project.now journal c.args.number c.args.target.now are part refl then)

pub returns-in-Misplaced-clause-alike : goal.returns-in-Misplaced-clause-alike
returns-in-Misplaced-clause-alike g c = λ t told journal stands part.
    let are = c.in_ok-places.ensures (stands_target c.args.project.now journal t stands c.args.number c.args.target.now part) in
    let second = g.T.Tree.meaning c.prepare_part.new.tree in
    let now = told_still (g.T.Tree.meaning c.args.tree.now) second t c.prepare_part.ensures.writes_none.tells told in
    let first = alike_ready c.args.project.now c.args.number c.args.target.now c.in_ok-places.places are journal t (reading second.disks.now) (g.T.Tree.meaning c.args.tree.now)
    (g.met.T.Tree.tells_its_disk c.args.tree.now t told) c.prepare_part.ensures.ready in
    alike_then c.args.project.now journal t now.0 _ second (g.met.T.Tree.tells_its_disk c.prepare_part.new.tree now.0 now.1) first stands
    (λ then. c.move_part.ensures.alike now.0 now.1 c.args.project.now journal c.args.number c.args.target.now are part refl then)

pub returns-in_err-prepare_part-clause-cause : goal.returns-in_err-prepare_part-clause-cause
returns-in_err-prepare_part-clause-cause g c = λ path is.
    let p = err_from_is_err_and c.from_residual-in_err-prepare_part.result c.from_residual-in_err-prepare_part.ensures.1 in
    let given = p.1 in
    let from = p.2 in
    c.in_err-prepare_part.ensures.cause path cc

pub returns-in_err-places-clause-fits : goal.returns-in_err-places-clause-fits
returns-in_err-places-clause-fits g c = let p = err_from_is_err_and c.from_residual.result c.from_residual.ensures.1 in rw (p.1, p.2) (λ t told whole way same part each. refl)

pub returns-in_err-prepare_part-clause-fits : goal.returns-in_err-prepare_part-clause-fits
returns-in_err-prepare_part-clause-fits g c =
    let p = err_from_is_err_and c.from_residual-in_err-prepare_part.result c.from_residual-in_err-prepare_part.ensures.1 in
    rw (p.1, p.2) (λ t told whole way same part each.
    let on = way_reads way (g.T.Tree.meaning c.args.tree.now) t (g.met.T.Tree.tells_its_disk c.args.tree.now t told) each in
    let are = c.in_ok-places.ensures (way_target way t on c.args.number c.args.target.now part) in
    c.in_err-prepare_part.ensures.fits t told (kept_is_under c.args.project.now c.args.number c.args.target.now c.in_ok-places.places are)
    (parents_are way c.args.project.now c.args.number c.args.target.now t same on part)
    (subst (λ (p : List (List ℕ)). is_folder (entry_at t (old_path p)) ≡ true) same (way_old_folder way t on)))

pub returns-in_err-move_part-clause-fits : goal.returns-in_err-move_part-clause-fits
returns-in_err-move_part-clause-fits g c = let p = err_from_is_err_and c.from_residual-in_err-move_part.result c.from_residual-in_err-move_part.ensures.1 in rw (p.1, p.2) (λ t told whole way same part each. refl)

pub returns-in-Misplaced-clause-fits : goal.returns-in-Misplaced-clause-fits
returns-in-Misplaced-clause-fits g c = λ t told whole way same part each.
    let on = way_reads way (g.T.Tree.meaning c.args.tree.now) t (g.met.T.Tree.tells_its_disk c.args.tree.now t told) each in
    let are = c.in_ok-places.ensures (way_target way t on c.args.number c.args.target.now part) in
    let first = g.T.Tree.meaning c.args.tree.now in
    let second = g.T.Tree.meaning c.prepare_part.new.tree in
    let now = told_still first second t c.prepare_part.ensures.writes_none.tells told in
    let run = c.prepare_part.ensures.through t told way c.args.number same are part each in
    let then = way_reads way second now.0 (g.met.T.Tree.tells_its_disk c.prepare_part.new.tree now.0 now.1) (through_ends (IsOnWay way) first second run) in
    let room = c.in_ok-prepare_part.ensures.room t told (kept_is_under c.args.project.now c.args.number c.args.target.now c.in_ok-places.places are) now.0 now.1 in
    let done = c.in_ok-move_part.ensures.fits now.0 now.1 c.args.project.now c.args.number c.args.target.now are
    (way_folders way c.args.project.now now.0 same then c.args.number c.args.target.now part) refl room in
    let misplaced = c.in-Misplaced.is in
    absurd cc

pub returns-in_err-places-clause-never_vanished : goal.returns-in_err-places-clause-never_vanished
returns-in_err-places-clause-never_vanished g c = let p = err_from_is_err_and c.from_residual.result c.from_residual.ensures.1 in rw (p.1, p.2) (λ t told is old. refl)

pub returns-in_err-prepare_part-clause-never_vanished : goal.returns-in_err-prepare_part-clause-never_vanished
returns-in_err-prepare_part-clause-never_vanished g c =
    let p = err_from_is_err_and c.from_residual-in_err-prepare_part.result c.from_residual-in_err-prepare_part.ensures.1 in
    rw (p.1, p.2) (λ t told is old.
    c.in_err-prepare_part.ensures.never_vanished t told (old_project c.args.project.now t (g.met.T.Tree.tells_trees c.args.tree.now t told) old)
    (kept_is_under c.args.project.now c.args.number c.args.target.now c.in_ok-places.places (c.in_ok-places.ensures is)) c.args.number (c.in_ok-places.ensures is) old)

pub returns-in_err-move_part-clause-never_vanished : goal.returns-in_err-move_part-clause-never_vanished
returns-in_err-move_part-clause-never_vanished g c = let p = err_from_is_err_and c.from_residual-in_err-move_part.result c.from_residual-in_err-move_part.ensures.1 in rw (p.1, p.2) (λ t told is old. refl)

pub returns-in-Misplaced-clause-never_vanished : goal.returns-in-Misplaced-clause-never_vanished
returns-in-Misplaced-clause-never_vanished g c = λ t told is old.
    let are = c.in_ok-places.ensures is in
    let now = told_still (g.T.Tree.meaning c.args.tree.now) (g.T.Tree.meaning c.prepare_part.new.tree) t c.prepare_part.ensures.writes_none.tells told in
    let room = c.in_ok-prepare_part.ensures.room t told (kept_is_under c.args.project.now c.args.number c.args.target.now c.in_ok-places.places are) now.0 now.1 in
    let folders = c.in_ok-prepare_part.ensures.folders t told (old_project c.args.project.now t (g.met.T.Tree.tells_trees c.args.tree.now t told) old) c.args.number are now.0 now.1 in
    let done = c.in_ok-move_part.ensures.fits now.0 now.1 c.args.project.now c.args.number c.args.target.now are folders refl room in
    let misplaced = c.in-Misplaced.is in
    absurd cc

pub returns-in_err-places-clause-old : goal.returns-in_err-places-clause-old
returns-in_err-places-clause-old g c = λ t told is old.
    ap (λ (w : FileTree). is_some (entry_at w (old_path c.args.project.now))) (sym (g.met.T.Tree.tells_its_disk c.args.tree.now t told).reads) ∙ old

pub returns-in_err-prepare_part-clause-old : goal.returns-in_err-prepare_part-clause-old
returns-in_err-prepare_part-clause-old g c = λ t told is old.
    ap is_some (old_prepared c.args.project.now c.args.number c.args.target.now c.in_ok-places.places (c.in_ok-places.ensures is) _ _ c.prepare_part.ensures.ready)
    ∙ ap (λ (w : FileTree). is_some (entry_at w (old_path c.args.project.now))) (sym (g.met.T.Tree.tells_its_disk c.args.tree.now t told).reads) ∙ old

pub returns-in_err-move_part-clause-old : goal.returns-in_err-move_part-clause-old
returns-in_err-move_part-clause-old g c = λ t told is old.
    ap is_some (old_moved c.args.project.now c.args.number c.args.target.now c.in_ok-places.places (c.in_ok-places.ensures is) _ _ c.move_part.ensures.moves)
    ∙ ap is_some (old_prepared c.args.project.now c.args.number c.args.target.now c.in_ok-places.places (c.in_ok-places.ensures is) _ _ c.prepare_part.ensures.ready)
    ∙ ap (λ (w : FileTree). is_some (entry_at w (old_path c.args.project.now))) (sym (g.met.T.Tree.tells_its_disk c.args.tree.now t told).reads) ∙ old

pub returns-in-Done-clause-old : goal.returns-in-Done-clause-old
returns-in-Done-clause-old g c = λ t told is old.
    ap is_some (old_moved c.args.project.now c.args.number c.args.target.now c.in_ok-places.places (c.in_ok-places.ensures is) _ _ c.move_part.ensures.moves)
    ∙ ap is_some (old_prepared c.args.project.now c.args.number c.args.target.now c.in_ok-places.places (c.in_ok-places.ensures is) _ _ c.prepare_part.ensures.ready)
    ∙ ap (λ (w : FileTree). is_some (entry_at w (old_path c.args.project.now))) (sym (g.met.T.Tree.tells_its_disk c.args.tree.now t told).reads) ∙ old

pub returns-in-Misplaced-clause-old : goal.returns-in-Misplaced-clause-old
returns-in-Misplaced-clause-old g c = λ t told is old.
    ap is_some (old_moved c.args.project.now c.args.number c.args.target.now c.in_ok-places.places (c.in_ok-places.ensures is) _ _ c.move_part.ensures.moves)
    ∙ ap is_some (old_prepared c.args.project.now c.args.number c.args.target.now c.in_ok-places.places (c.in_ok-places.ensures is) _ _ c.prepare_part.ensures.ready)
    ∙ ap (λ (w : FileTree). is_some (entry_at w (old_path c.args.project.now))) (sym (g.met.T.Tree.tells_its_disk c.args.tree.now t told).reads) ∙ old

pub returns-in_err-prepare_part-clause-stays : goal.returns-in_err-prepare_part-clause-stays
returns-in_err-prepare_part-clause-stays g c = λ path is.
    let p = err_from_is_err_and c.from_residual-in_err-prepare_part.result c.from_residual-in_err-prepare_part.ensures.1 in
    let given = p.1 in
    let from = p.2 in
    c.in_err-prepare_part.ensures.stays path cc

pub returns-in_err-places-clause-leaves : goal.returns-in_err-places-clause-leaves
returns-in_err-places-clause-leaves g c = λ t told journal stands part j other differs there below.
    ap (λ (w : FileTree). file_at w (target_path c.args.project.now other ++ below)) (sym (g.met.T.Tree.tells_its_disk c.args.tree.now t told).reads)

pub returns-in_err-prepare_part-clause-leaves : goal.returns-in_err-prepare_part-clause-leaves
returns-in_err-prepare_part-clause-leaves g c = λ t told journal stands part j other differs there below.
    ready_leaves c.args.project.now c.args.number c.args.target.now other c.in_ok-places.places
    (c.in_ok-places.ensures (stands_target c.args.project.now journal t stands c.args.number c.args.target.now part)) (stands_target c.args.project.now journal t stands j other there)
    (stands_apart c.args.project.now journal t stands c.args.number j c.args.target.now other differs part there) below _ _ c.prepare_part.ensures.ready
    ∙ ap (λ (w : FileTree). file_at w (target_path c.args.project.now other ++ below)) (sym (g.met.T.Tree.tells_its_disk c.args.tree.now t told).reads)

pub returns-in_err-move_part-clause-leaves : goal.returns-in_err-move_part-clause-leaves
returns-in_err-move_part-clause-leaves g c = λ t told journal stands part j other differs there below.
    let are = c.in_ok-places.ensures (stands_target c.args.project.now journal t stands c.args.number c.args.target.now part) in
    let is_other = stands_target c.args.project.now journal t stands j other there in
    let apart = stands_apart c.args.project.now journal t stands c.args.number j c.args.target.now other differs part there in
    moves_leave c.args.project.now c.args.number c.args.target.now other c.in_ok-places.places are is_other apart below _ _ c.move_part.ensures.moves
    ∙ ready_leaves c.args.project.now c.args.number c.args.target.now other c.in_ok-places.places are is_other apart below _ _ c.prepare_part.ensures.ready
    ∙ ap (λ (w : FileTree). file_at w (target_path c.args.project.now other ++ below)) (sym (g.met.T.Tree.tells_its_disk c.args.tree.now t told).reads)

pub returns-in-Done-clause-leaves : goal.returns-in-Done-clause-leaves
returns-in-Done-clause-leaves g c = λ t told journal stands part j other differs there below.
    let are = c.in_ok-places.ensures (stands_target c.args.project.now journal t stands c.args.number c.args.target.now part) in
    let is_other = stands_target c.args.project.now journal t stands j other there in
    let apart = stands_apart c.args.project.now journal t stands c.args.number j c.args.target.now other differs part there in
    moves_leave c.args.project.now c.args.number c.args.target.now other c.in_ok-places.places are is_other apart below _ _ c.move_part.ensures.moves
    ∙ ready_leaves c.args.project.now c.args.number c.args.target.now other c.in_ok-places.places are is_other apart below _ _ c.prepare_part.ensures.ready
    ∙ ap (λ (w : FileTree). file_at w (target_path c.args.project.now other ++ below)) (sym (g.met.T.Tree.tells_its_disk c.args.tree.now t told).reads)

pub returns-in-Misplaced-clause-leaves : goal.returns-in-Misplaced-clause-leaves
returns-in-Misplaced-clause-leaves g c = λ t told journal stands part j other differs there below.
    let are = c.in_ok-places.ensures (stands_target c.args.project.now journal t stands c.args.number c.args.target.now part) in
    let is_other = stands_target c.args.project.now journal t stands j other there in
    let apart = stands_apart c.args.project.now journal t stands c.args.number j c.args.target.now other differs part there in
    moves_leave c.args.project.now c.args.number c.args.target.now other c.in_ok-places.places are is_other apart below _ _ c.move_part.ensures.moves
    ∙ ready_leaves c.args.project.now c.args.number c.args.target.now other c.in_ok-places.places are is_other apart below _ _ c.prepare_part.ensures.ready
    ∙ ap (λ (w : FileTree). file_at w (target_path c.args.project.now other ++ below)) (sym (g.met.T.Tree.tells_its_disk c.args.tree.now t told).reads)

pub returns-in_err-prepare_part-clause-blocked : goal.returns-in_err-prepare_part-clause-blocked
returns-in_err-prepare_part-clause-blocked g c = λ at is.
    let p = err_from_is_err_and c.from_residual-in_err-prepare_part.result c.from_residual-in_err-prepare_part.ensures.1 in
    let given = p.1 in
    let from = p.2 in
    let found = c.in_err-prepare_part.ensures.blocked at cc in
    λ t told is_target. found t told c.args.number (c.in_ok-places.ensures is_target)

pub returns-in-Done-clause-free : goal.returns-in-Done-clause-free
returns-in-Done-clause-free g c = λ t told is_target old at blocked.
    c.in_ok-prepare_part.ensures.free t told (old_project c.args.project.now t (g.met.T.Tree.tells_trees c.args.tree.now t told) old) c.args.number (c.in_ok-places.ensures is_target) at blocked

pub returns-in_err-places-clause-needs : goal.returns-in_err-places-clause-needs
returns-in_err-places-clause-needs g c = λ t told journal stands part j other differs there.
    subst (λ (w : FileTree). NeedsAlike c.args.project.now j other t w) (g.met.T.Tree.tells_its_disk c.args.tree.now t told).reads (needs_itself c.args.project.now j other t)

pub returns-in_err-prepare_part-clause-needs : goal.returns-in_err-prepare_part-clause-needs
returns-in_err-prepare_part-clause-needs g c = λ t told journal stands part j other differs there.
    let project = c.args.project.now in
    subst (λ (w : FileTree). NeedsAlike project j other w (reading (g.T.Tree.meaning c.prepare_part.new.tree).disks.now)) (sym (g.met.T.Tree.tells_its_disk c.args.tree.now t told).reads)
    (ready_needs project c.args.number j c.args.target.now other c.in_ok-places.places
    (c.in_ok-places.ensures (stands_target project journal t stands c.args.number c.args.target.now part)) (stands_target project journal t stands j other there)
    (stands_number project journal t stands c.args.number c.args.target.now part) (stands_number project journal t stands j other there) differs
    (stands_apart project journal t stands c.args.number j c.args.target.now other differs part there) _ _ c.prepare_part.ensures.ready)

pub returns-in_err-move_part-clause-needs : goal.returns-in_err-move_part-clause-needs
returns-in_err-move_part-clause-needs g c = λ t told journal stands part j other differs there.
    let project = c.args.project.now in
    let are = c.in_ok-places.ensures (stands_target project journal t stands c.args.number c.args.target.now part) in
    let is_other = stands_target project journal t stands j other there in
    let small = stands_number project journal t stands c.args.number c.args.target.now part in
    let also = stands_number project journal t stands j other there in
    let apart = stands_apart project journal t stands c.args.number j c.args.target.now other differs part there in
    subst (λ (w : FileTree). NeedsAlike project j other w (reading (g.T.Tree.meaning c.move_part.new.tree).disks.now)) (sym (g.met.T.Tree.tells_its_disk c.args.tree.now t told).reads)
    (needs_on project j other _ (reading (g.T.Tree.meaning c.prepare_part.new.tree).disks.now) _
    (ready_needs project c.args.number j c.args.target.now other c.in_ok-places.places are is_other small also differs apart _ _ c.prepare_part.ensures.ready)
    (moved_needs project c.args.number j c.args.target.now other c.in_ok-places.places are is_other small also differs apart _ _ c.move_part.ensures.moves))

pub returns-in-Done-clause-needs : goal.returns-in-Done-clause-needs
returns-in-Done-clause-needs g c = λ t told journal stands part j other differs there.
    let project = c.args.project.now in
    let are = c.in_ok-places.ensures (stands_target project journal t stands c.args.number c.args.target.now part) in
    let is_other = stands_target project journal t stands j other there in
    let small = stands_number project journal t stands c.args.number c.args.target.now part in
    let also = stands_number project journal t stands j other there in
    let apart = stands_apart project journal t stands c.args.number j c.args.target.now other differs part there in
    subst (λ (w : FileTree). NeedsAlike project j other w (reading (g.T.Tree.meaning c.move_part.new.tree).disks.now)) (sym (g.met.T.Tree.tells_its_disk c.args.tree.now t told).reads)
    (needs_on project j other _ (reading (g.T.Tree.meaning c.prepare_part.new.tree).disks.now) _
    (ready_needs project c.args.number j c.args.target.now other c.in_ok-places.places are is_other small also differs apart _ _ c.prepare_part.ensures.ready)
    (moved_needs project c.args.number j c.args.target.now other c.in_ok-places.places are is_other small also differs apart _ _ c.move_part.ensures.moves))

pub returns-in-Misplaced-clause-needs : goal.returns-in-Misplaced-clause-needs
returns-in-Misplaced-clause-needs g c = λ t told journal stands part j other differs there.
    let project = c.args.project.now in
    let are = c.in_ok-places.ensures (stands_target project journal t stands c.args.number c.args.target.now part) in
    let is_other = stands_target project journal t stands j other there in
    let small = stands_number project journal t stands c.args.number c.args.target.now part in
    let also = stands_number project journal t stands j other there in
    let apart = stands_apart project journal t stands c.args.number j c.args.target.now other differs part there in
    subst (λ (w : FileTree). NeedsAlike project j other w (reading (g.T.Tree.meaning c.move_part.new.tree).disks.now)) (sym (g.met.T.Tree.tells_its_disk c.args.tree.now t told).reads)
    (needs_on project j other _ (reading (g.T.Tree.meaning c.prepare_part.new.tree).disks.now) _
    (ready_needs project c.args.number j c.args.target.now other c.in_ok-places.places are is_other small also differs apart _ _ c.prepare_part.ensures.ready)
    (moved_needs project c.args.number j c.args.target.now other c.in_ok-places.places are is_other small also differs apart _ _ c.move_part.ensures.moves))
