use Rattle.std.proofs.Common.{refl, inl, inr, arith}
use Rattle.std.proofs.lemmas.Bool.{cases_eq}
use Rattle.std.proofs.lemmas.Option.{slice_get_read, slice_get_within}
use Rattle.std.proofs.lemmas.Result.{err_from_is_err_and}
use Rattle.tree_dev.proofs.Stretches.{through_ends, through_from}
use Rattle.install_world.specs.Moving.{IsOnWay}
use Rattle.install_world.proofs.PartDone.{told_still}
use Rattle.install_world.proofs.PartFinish.{last_done, steps_then, way_reads}
use Rattle.install_world.proofs.RemovalRules.{writes_none_on, writes_none_start}
use Rattle.vendor_journal.proofs.PreparedParts.{others_stay, part_of}
use Rattle.vendor_journal.proofs.CommitPlaces.{free_of, room_on}
use Rattle.vendor_journal.proofs.commits.move_parts.Goals as goal

pub parts-init : goal.parts-init
parts-init g c = record {
  writes_none = writes_none_start _;
  through = λ t told whole way are each. through_from (IsOnWay way) _ each;
  done = λ t told whole way are each j other below there. absurd (omega arith);
  room = λ t told whole way are each room. room;
}

pub returns-in_err-move_prepared-clause-writes_none : goal.returns-in_err-move_prepared-clause-writes_none
returns-in_err-move_prepared-clause-writes_none g c =
    let p = err_from_is_err_and c.from_residual.result c.from_residual.ensures.1 in
    rw (p.1, p.2) (writes_none_on _ _ _ _ c.in_err-move_prepared.ensures.writes_none c.parts.invariant.writes_none)

pub returns-in_err-move_prepared-clause-through : goal.returns-in_err-move_prepared-clause-through
returns-in_err-move_prepared-clause-through g c = λ t told whole way are each.
    let read = slice_get_read c.args.parts.now _ c.parts.number c.index-parts-number.result refl (omega arith) c.index-parts-number.is in
    let mine = part_of way.project way.journal.targets c.args.parts.now are c.parts.number c.index-parts-number.result read in
    steps_then way _ _ _ t told c.parts.invariant.writes_none.tells (c.parts.invariant.through t told whole way are each)
    (λ u now. c.move_prepared.ensures.through u now (c.parts.invariant.writes_none.whole whole) way c.parts.number mine.target mine.is_prepared mine.is_part)

pub parts-preserved : goal.parts-preserved
parts-preserved g c =
    let read = slice_get_read c.args.parts.now _ c.parts.number c.index-parts-number.result refl (omega arith) c.index-parts-number.is in
    record {
      writes_none = writes_none_on _ _ _ _ c.in_ok-move_prepared.ensures.writes_none c.parts.invariant.writes_none;
      through = λ t told whole way are each.
          let mine = part_of way.project way.journal.targets c.args.parts.now are c.parts.number c.index-parts-number.result read in
          steps_then way _ _ _ t told c.parts.invariant.writes_none.tells (c.parts.invariant.through t told whole way are each)
          (λ u now. c.move_prepared.ensures.through u now (c.parts.invariant.writes_none.whole whole) way c.parts.number mine.target mine.is_prepared mine.is_part);
      done = λ t told whole way are each j other below there.
          let mine = part_of way.project way.journal.targets c.args.parts.now are c.parts.number c.index-parts-number.result read in
          let before = g.T.Tree.meaning c.args.tree.now in
          let here = g.T.Tree.meaning c.parts.tree in
          let now = told_still before here t c.parts.invariant.writes_none.tells told in
          let disk = g.met.T.Tree.tells_its_disk c.parts.tree now.0 now.1 in
          let on = way_reads way here now.0 disk (through_ends (IsOnWay way) before here (c.parts.invariant.through t told whole way are each)) in
          elim (cases_eq c.parts.number j) [
            | inl is ↦ last_done way.journal.targets c.parts.number j mine.target other way.project _ is mine.is_part there
                (c.in_ok-move_prepared.ensures.done now.0 now.1 way.project c.parts.number mine.target mine.is_prepared)
            | inr differs ↦ others_stay way now.0 on c.parts.number j mine.target other c.index-parts-number.result mine.is_prepared mine.is_part there differs _ _
                c.move_prepared.ensures.moves disk.reads
                (c.parts.invariant.done t told whole way are each j other (omega (arith, below, differs)) there)
          ];
      room = λ t told whole way are each room.
          let mine = part_of way.project way.journal.targets c.args.parts.now are c.parts.number c.index-parts-number.result read in
          let before = g.T.Tree.meaning c.args.tree.now in
          let here = g.T.Tree.meaning c.parts.tree in
          let now = told_still before here t c.parts.invariant.writes_none.tells told in
          let disk = g.met.T.Tree.tells_its_disk c.parts.tree now.0 now.1 in
          let on = way_reads way here now.0 disk (through_ends (IsOnWay way) before here (c.parts.invariant.through t told whole way are each)) in
          room_on way now.0 on c.parts.number mine.target c.index-parts-number.result mine.is_prepared mine.is_part _ _ c.move_prepared.ensures.moves
          (c.parts.invariant.room t told whole way are each room);
    }

pub returns-clause-done : goal.returns-clause-done
returns-clause-done g c = λ t told whole way are each. record {
  each = λ number target part. c.parts.invariant.done t told whole way are each number target
      (let inside = slice_get_within way.journal.targets number target part in let count = are.count in omega arith) part;
}

pub returns-in_err-move_prepared-clause-never_vanished : goal.returns-in_err-move_prepared-clause-never_vanished
returns-in_err-move_prepared-clause-never_vanished g c =
    let p = err_from_is_err_and c.from_residual.result c.from_residual.ensures.1 in
    rw (p.1, p.2) (λ t told whole way are each room.
    let read = slice_get_read c.args.parts.now _ c.parts.number c.index-parts-number.result refl (omega arith) c.index-parts-number.is in
    let mine = part_of way.project way.journal.targets c.args.parts.now are c.parts.number c.index-parts-number.result read in
    let before = g.T.Tree.meaning c.args.tree.now in
    let here = g.T.Tree.meaning c.parts.tree in
    let now = told_still before here t c.parts.invariant.writes_none.tells told in
    let disk = g.met.T.Tree.tells_its_disk c.parts.tree now.0 now.1 in
    let on = way_reads way here now.0 disk (through_ends (IsOnWay way) before here (c.parts.invariant.through t told whole way are each)) in
    c.in_err-move_prepared.ensures.never_vanished now.0 now.1 way c.parts.number mine.target mine.is_prepared mine.is_part on
    (free_of way now.0 on c.parts.number mine.target c.index-parts-number.result mine.is_prepared mine.is_part _ disk.reads (c.parts.invariant.room t told whole way are each room)))
