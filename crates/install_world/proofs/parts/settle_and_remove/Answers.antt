use Rattle.std.proofs.Common.{sym}
use Rattle.std.proofs.lemmas.Result.{err_from_is_err_and}
use Rattle.tree_dev.proofs.Stretches.{through_from}
use Rattle.tree_dev.proofs.Whole.{through_then_barrier}
use Rattle.install_world.specs.Moving.{IsOnWay}
use Rattle.install_world.proofs.PartCleared.{removed_barrier, through_cleared}
use Rattle.install_world.proofs.RemovalRules.{removed_on, writes_none_barrier, writes_none_on, writes_none_start}
use Rattle.std.proofs.Common.{refl, ◌∙◌}
use Rattle.install_world.proofs.PlacesFree.{barrier_told}
use Rattle.install_world.proofs.parts.settle_and_remove.Goals as goal

pub returns-in_err-barrier-clause-writes_none : goal.returns-in_err-barrier-clause-writes_none
returns-in_err-barrier-clause-writes_none g c =
    let p = err_from_is_err_and c.from_residual.result c.from_residual.ensures.1 in
    rw (p.1, p.2) (writes_none_barrier _ _ _ _ c.barrier.ensures.moments c.barrier.ensures.counts (λ failed. c.in_err-barrier.ensures.cause) (writes_none_start _))

pub returns-in_err-barrier-clause-removes : goal.returns-in_err-barrier-clause-removes
returns-in_err-barrier-clause-removes g c = removed_barrier c.args.at.now _ _ c.barrier.ensures.moments

pub returns-in_err-barrier-clause-through : goal.returns-in_err-barrier-clause-through
returns-in_err-barrier-clause-through g c = λ t told way keeps each.
    through_then_barrier (IsOnWay way) _ _ _ c.barrier.ensures.moments (through_from (IsOnWay way) _ each)

pub returns-clause-writes_none : goal.returns-clause-writes_none
returns-clause-writes_none g c =
    writes_none_on _ _ _ _ c.remove_entry.ensures.writes_none
    (writes_none_barrier _ _ _ _ c.barrier.ensures.moments c.barrier.ensures.counts (λ failed. absurd cc) (writes_none_start _))

pub returns-clause-removes : goal.returns-clause-removes
returns-clause-removes g c =
    removed_on c.args.at.now _ _ _ (removed_barrier c.args.at.now _ _ c.barrier.ensures.moments) c.remove_entry.ensures.removes.reads

pub returns-clause-through : goal.returns-clause-through
returns-clause-through g c = λ t told way keeps each.
    through_cleared (IsOnWay way) c.args.at.now t keeps _ _ _ _ (c.in_ok-barrier.ensures.done t told) (sym (g.met.T.Tree.tells_its_disk c.args.tree.now t told).reads)
    c.remove_entry.ensures.removes (through_then_barrier (IsOnWay way) _ _ _ c.barrier.ensures.moments (through_from (IsOnWay way) _ each))

pub returns-in_err-barrier-clause-fits : goal.returns-in_err-barrier-clause-fits
returns-in_err-barrier-clause-fits g c = let p = err_from_is_err_and c.from_residual.result c.from_residual.ensures.1 in rw (p.1, p.2) (λ t told there is. refl)

pub returns-clause-fits : goal.returns-clause-fits
returns-clause-fits g c = λ t told there is. c.remove_entry.ensures.fits t (barrier_told _ _ c.barrier.ensures.moments ∙ told) there is
