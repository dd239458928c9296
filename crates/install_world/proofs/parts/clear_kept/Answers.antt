use Rattle.std.proofs.Common.{◌∙◌, ◌≡◌, true, refl, sym, subst}
use Rattle.std.specs.Prelude.{◌⊎◌}
use Rattle.std.proofs.lemmas.Result.{err_from_is_err_and}
use Rattle.tree_dev.proofs.Stretches.{through_then_through}
use Rattle.install_world.specs.InFlight.{IsThere}
use Rattle.install_world.specs.Moving.{IsOnWay}
use Rattle.install_world.proofs.PartCleared.{cleared_on_way, removed_read}
use Rattle.install_world.proofs.PartFinish.{way_reads}
use Rattle.install_world.proofs.RemovalRules.{removed_on, writes_none_on, writes_none_read, writes_none_start}
use Rattle.install_world.proofs.WayMoves.{read_through}
use Rattle.std.proofs.Common.{refl, ◌∙◌}
use Rattle.std.proofs.lemmas.Result.{on_ok_weaker}
use Rattle.tree_dev.specs.Trees.{FileTree}
use Rattle.install_world.specs.Moving.{HasRoom}
use Rattle.install_world.proofs.PlacesFree.{told_same}
use Rattle.install_world.proofs.RoomMade.{room_without_kept}
use Rattle.install_world.proofs.parts.clear_kept.Goals as goal

pub returns-in_err-kept_in_the_way-clause-writes_none : goal.returns-in_err-kept_in_the_way-clause-writes_none
returns-in_err-kept_in_the_way-clause-writes_none g c =
    let p = err_from_is_err_and c.from_residual.result c.from_residual.ensures.1 in
    rw (p.1, p.2) (writes_none_read _ _ _ _ c.in_err-kept_in_the_way.ensures.only_read (writes_none_start _))

pub returns-in_err-kept_in_the_way-clause-removes : goal.returns-in_err-kept_in_the_way-clause-removes
returns-in_err-kept_in_the_way-clause-removes g c = removed_read c.args.places.now.kept _ _ _ c.kept_in_the_way.ensures.only_read

pub returns-in_err-kept_in_the_way-clause-through : goal.returns-in_err-kept_in_the_way-clause-through
returns-in_err-kept_in_the_way-clause-through g c = λ t told way number target are part is each.
    read_through way number target c.args.places.now are part _ _ _ c.kept_in_the_way.ensures.only_read each

pub returns-in-None-clause-writes_none : goal.returns-in-None-clause-writes_none
returns-in-None-clause-writes_none g c = writes_none_read _ _ _ _ c.in_ok-kept_in_the_way.ensures.only_read (writes_none_start _)

pub returns-in-None-clause-removes : goal.returns-in-None-clause-removes
returns-in-None-clause-removes g c = removed_read c.args.places.now.kept _ _ _ c.kept_in_the_way.ensures.only_read

pub returns-in-None-clause-through : goal.returns-in-None-clause-through
returns-in-None-clause-through g c = λ t told way number target are part is each.
    read_through way number target c.args.places.now are part _ _ _ c.kept_in_the_way.ensures.only_read each

pub returns-in-Some-clause-writes_none : goal.returns-in-Some-clause-writes_none
returns-in-Some-clause-writes_none g c =
    writes_none_on _ _ _ _ c.settle_and_remove.ensures.writes_none (writes_none_read _ _ _ _ c.in_ok-kept_in_the_way.ensures.only_read (writes_none_start _))

pub returns-in-Some-clause-removes : goal.returns-in-Some-clause-removes
returns-in-Some-clause-removes g c =
    removed_on c.args.places.now.kept _ _ _ (removed_read c.args.places.now.kept _ _ _ c.kept_in_the_way.ensures.only_read) c.settle_and_remove.ensures.removes

pub returns-in-Some-clause-through : goal.returns-in-Some-clause-through
returns-in-Some-clause-through g c = λ t told way number target are part is each.
    let found = c.in_ok-kept_in_the_way.ensures.taken (rw c.in-Some.is refl) t told way.project number target are in
    through_then_through (IsOnWay way) _ _ _
    (c.settle_and_remove.ensures.through t (c.kept_in_the_way.ensures.only_read.told ∙ told) way
    (λ left removed. cleared_on_way way number target c.args.places.now are part t left found.0 (subst (λ mark. (mark ≡ true) ⊎ IsThere t c.args.places.now.staged) (sym is) found.1)
    removed (way_reads way (g.T.Tree.meaning c.args.tree.now) t (g.met.T.Tree.tells_its_disk c.args.tree.now t told) each)))
    (read_through way number target c.args.places.now are part _ _ _ c.kept_in_the_way.ensures.only_read each)

pub returns-in-None-clause-room : goal.returns-in-None-clause-room
returns-in-None-clause-room g c = λ t told under u now.
    subst (λ (w : FileTree). HasRoom c.args.gone c.args.places.now w) (told_same _ _ t u c.kept_in_the_way.ensures.only_read.told told now)
    (rw c.in-None.is at (c.in_ok-kept_in_the_way.ensures.found t told under))

pub returns-in-Some-clause-room : goal.returns-in-Some-clause-room
returns-in-Some-clause-room g c = on_ok_weaker c.settle_and_remove.result
    (λ gone t told under u now. room_without_kept c.args.gone c.args.places.now u (gone u now))
    c.settle_and_remove.ensures.gone

pub returns-in_err-kept_in_the_way-clause-fits : goal.returns-in_err-kept_in_the_way-clause-fits
returns-in_err-kept_in_the_way-clause-fits g c = let p = err_from_is_err_and c.from_residual.result c.from_residual.ensures.1 in rw (p.1, p.2) (λ t told under. refl)

pub returns-in-Some-clause-fits : goal.returns-in-Some-clause-fits
returns-in-Some-clause-fits g c = λ t told under.
    let found = rw c.in-Some.is at (c.in_ok-kept_in_the_way.ensures.found t told under) in
    c.settle_and_remove.ensures.fits t (c.kept_in_the_way.ensures.only_read.told ∙ told) found.0 found.1
