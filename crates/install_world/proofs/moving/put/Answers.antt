use Rattle.std.proofs.Common.{refl}
use Rattle.std.proofs.lemmas.Result.{IfOk-weaker}
use Rattle.install_world.proofs.PartDone.{places_put, put_is_done, told_still}
use Rattle.install_world.proofs.RemovalRules.{cause_of, writes_none_change}
use Rattle.install_world.proofs.WayMoves.{put_through}
use Rattle.tree_dev.specs.declared.change.Change.TheVariants as changes
use Rattle.install_world.proofs.PlacesFree.{placed_is_done}
use Rattle.tree_dev.specs.Disk.{reading}
use Rattle.install_world.proofs.FinishSteps.{alike_on, alike_put, stands_then}
use Rattle.install_world.proofs.moving.put.Goals as goal

pub returns-in_err-make_way-clause-through : goal.returns-in_err-make_way-clause-through
returns-in_err-make_way-clause-through g c = λ t told whole way number target are part stays there each.
    c.make_way.ensures.through t told whole way number target are part there each

pub returns-in-Misplaced-clause-through : goal.returns-in-Misplaced-clause-through
returns-in-Misplaced-clause-through g c = λ t told whole way number target are part stays there each.
    c.make_way.ensures.through t told whole way number target are part there each

pub returns-in-Done-clause-writes_none : goal.returns-in-Done-clause-writes_none
returns-in-Done-clause-writes_none g c =
    writes_none_change _ _ _ _ _ c.rename.ensures.moments refl c.rename.ensures.counts (cause_of c.rename.result c.rename.ensures.cause) c.in_ok-make_way.ensures.writes_none

pub returns-in-Done-clause-moves : goal.returns-in-Done-clause-moves
returns-in-Done-clause-moves g c = places_put c.args.places.now _ _ _ c.rename.ensures.moments c.make_way.ensures.moves

pub returns-in-Done-clause-through : goal.returns-in-Done-clause-through
returns-in-Done-clause-through g c = λ t told whole way number target are part stays there each.
    put_through way number target c.args.places.now are part _ _ _ stays (c.make_way.ensures.writes_none.whole whole) c.rename.ensures.moments
    (c.make_way.ensures.through t told whole way number target are part there each)

pub returns-in-Done-clause-done : goal.returns-in-Done-clause-done
returns-in-Done-clause-done g c = IfOk-weaker c.rename.result _ _
    (λ did adds is t told project number target are.
    let now = told_still (g.T.Tree.meaning c.args.tree.now) (g.T.Tree.meaning c.make_way.new.tree) t c.make_way.ensures.writes_none.tells told in
    put_is_done project number target c.args.places.now are (g.T.Tree.meaning c.make_way.new.tree) (g.T.Tree.meaning c.rename.new.self) (adds is now.0 now.1))
    c.rename.ensures.done

pub returns-in-Misplaced-clause-fits : goal.returns-in-Misplaced-clause-fits
returns-in-Misplaced-clause-fits g c = λ t told project number target are folders goes there leaf room.
    let done = (c.in_ok-make_way.ensures.fits t told project number target are folders goes there leaf room).0 in
    let misplaced = c.in-Misplaced.is in
    absurd cc

pub returns-in-Done-clause-fits : goal.returns-in-Done-clause-fits
returns-in-Done-clause-fits g c = IfOk-weaker c.rename.result _ _
    (λ answer is t told project number target are folders goes there leaf room.
    let now = told_still (g.T.Tree.meaning c.args.tree.now) (g.T.Tree.meaning c.make_way.new.tree) t c.make_way.ensures.writes_none.tells told in
    placed_is_done now.0 (changes.Renamed c.args.places.now.staged c.args.places.now.target) answer (is now.0 now.1)
    ((c.in_ok-make_way.ensures.fits t told project number target are folders goes there leaf room).1 now.0 now.1))
    c.rename.ensures.answer

pub returns-in_err-make_way-clause-alike : goal.returns-in_err-make_way-clause-alike
returns-in_err-make_way-clause-alike g c = λ t told project journal number target are part stays there stands.
    c.make_way.ensures.alike t told project journal number target are part there stands

pub returns-in-Misplaced-clause-alike : goal.returns-in-Misplaced-clause-alike
returns-in-Misplaced-clause-alike g c = λ t told project journal number target are part stays there stands.
    c.make_way.ensures.alike t told project journal number target are part there stands

pub returns-in-Done-clause-alike : goal.returns-in-Done-clause-alike
returns-in-Done-clause-alike g c = λ t told project journal number target are part stays there stands.
    let mid = reading (g.T.Tree.meaning c.make_way.new.tree).disks.now in
    let first = c.make_way.ensures.alike t told project journal number target are part there stands in
    alike_on project journal t mid _ first
    (alike_put project journal number target c.args.places.now are part mid (stands_then project journal t mid stands first) _ _ c.rename.ensures.moments refl stays)
