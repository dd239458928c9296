use Rattle.std.proofs.Common.{false, ◌∙◌, sym, subst}
use Rattle.std.proofs.lemmas.Result.{err_from_is_err_and}
use Rattle.tree_dev.specs.declared.change.Change.TheVariants.{Renamed}
use Rattle.tree_dev.proofs.Whole.{through_then_barrier}
use Rattle.install_world.specs.InFlight.{IsInFlight}
use Rattle.install_world.specs.Moving.{IsOnWay}
use Rattle.install_world.proofs.PartDone.{told_still}
use Rattle.vendor_journal.proofs.CallRules.{calls_barrier, calls_change, calls_start}
use Rattle.vendor_journal.proofs.JournalPlaced.{named_reads, named_through, placed_on_way, settled_alone, settled_whole}
use Rattle.std.proofs.Common.{◌≡◌, true}
use Rattle.tree_dev.specs.Trees.{FileTree}
use Rattle.tree_dev.specs.Changes.{changed, has_place}
use Rattle.tree_dev.specs.Disk.{reading}
use Rattle.tree_dev.specs.declared.change.Change.TheVariants.{Written}
use Rattle.tree_dev.proofs.Images.{reading_is_image}
use Rattle.install_world.proofs.PlacesFree.{placed_is_done}
use Rattle.vendor_journal.specs.Committing.{HasRoomFrom}
use Rattle.vendor_journal.proofs.CommitPlaces.{name_has_place, room_placed}
use Rattle.vendor_journal.proofs.commits.name_draft.Goals as goal

pub returns-in_err-rename-clause-calls : goal.returns-in_err-rename-clause-calls
returns-in_err-rename-clause-calls g c =
    let p = err_from_is_err_and c.from_residual.result c.from_residual.ensures.1 in
    rw p.1 (calls_change _ _ _ _ _ c.rename.ensures.moments (λ failed. c.in_err-rename.ensures.cause) (calls_start _))

pub returns-in_err-rename-clause-through : goal.returns-in_err-rename-clause-through
returns-in_err-rename-clause-through g c = λ way puts t ready whole alone each.
    named_through way puts c.args.prepared.now t ready _ _ c.rename.ensures.moments whole alone each

pub returns-in_err-make_safe-in-Done-clause-calls : goal.returns-in_err-make_safe-in-Done-clause-calls
returns-in_err-make_safe-in-Done-clause-calls g c =
    let p = err_from_is_err_and c.from_residual-in_err-make_safe-in-Done.result c.from_residual-in_err-make_safe-in-Done.ensures.1 in
    rw p.1 (calls_barrier _ _ _ _ c.make_safe.ensures.moments (λ failed. c.in_err-make_safe-in-Done.ensures.cause)
    (calls_change _ _ _ _ _ c.rename.ensures.moments (λ failed. absurd cc) (calls_start _)))

pub returns-in_err-make_safe-in-Done-clause-through : goal.returns-in_err-make_safe-in-Done-clause-through
returns-in_err-make_safe-in-Done-clause-through g c = λ way puts t ready whole alone each.
    through_then_barrier (IsInFlight way.project way.surroundings way.old way.new) _ _ _ c.make_safe.ensures.moments
    (named_through way puts c.args.prepared.now t ready _ _ c.rename.ensures.moments whole alone each)

pub returns-in_ok-make_safe-in-Done-clause-calls : goal.returns-in_ok-make_safe-in-Done-clause-calls
returns-in_ok-make_safe-in-Done-clause-calls g c =
    calls_barrier _ _ _ _ c.make_safe.ensures.moments (λ failed. absurd cc)
    (calls_change _ _ _ _ _ c.rename.ensures.moments (λ failed. absurd cc) (calls_start _))

pub returns-in_ok-make_safe-in-Done-clause-through : goal.returns-in_ok-make_safe-in-Done-clause-through
returns-in_ok-make_safe-in-Done-clause-through g c = λ way puts t ready whole alone each.
    through_then_barrier (IsInFlight way.project way.surroundings way.old way.new) _ _ _ c.make_safe.ensures.moments
    (named_through way puts c.args.prepared.now t ready _ _ c.rename.ensures.moments whole alone each)

pub returns-in_ok-make_safe-in-Done-clause-named : goal.returns-in_ok-make_safe-in-Done-clause-named
returns-in_ok-make_safe-in-Done-clause-named g c = λ done u told way puts t ready alone.
    let first = g.T.Tree.meaning c.args.tree.now in
    let second = g.T.Tree.meaning c.rename.new.self in
    let third = g.T.Tree.meaning c.make_safe.new.tree in
    let run = calls_change first first second (Renamed c.args.prepared.now.draft c.args.prepared.now.at) false c.rename.ensures.moments (λ failed. absurd cc) (calls_start first) in
    let now = told_still first second u run.tells told in
    let adds = c.in_ok-rename.ensures.done c.in-Done.is u told in
    let settles = c.in_ok-make_safe-in-Done.ensures.done now.0 now.1 in (
      settled_whole second third settles,
      λ left image.
          subst (IsOnWay way) (sym (settled_alone second third settles left image ∙ named_reads way puts c.args.prepared.now t ready first second adds alone))
          (placed_on_way way puts c.args.prepared.now t ready),
    )

pub returns-in-Misplaced-clause-calls : goal.returns-in-Misplaced-clause-calls
returns-in-Misplaced-clause-calls g c = calls_change _ _ _ _ _ c.rename.ensures.moments (λ failed. absurd cc) (calls_start _)

pub returns-in-Misplaced-clause-through : goal.returns-in-Misplaced-clause-through
returns-in-Misplaced-clause-through g c = λ way puts t ready whole alone each.
    named_through way puts c.args.prepared.now t ready _ _ c.rename.ensures.moments whole alone each

pub returns-in_ok-make_safe-in-Done-clause-room : goal.returns-in_ok-make_safe-in-Done-clause-room
returns-in_ok-make_safe-in-Done-clause-room g c = λ done u told way puts t ready alone.
    let first = g.T.Tree.meaning c.args.tree.now in
    let second = g.T.Tree.meaning c.rename.new.self in
    let third = g.T.Tree.meaning c.make_safe.new.tree in
    let run = calls_change first first second (Renamed c.args.prepared.now.draft c.args.prepared.now.at) false c.rename.ensures.moments (λ failed. absurd cc) (calls_start first) in
    let now = told_still first second u run.tells told in
    let adds = c.in_ok-rename.ensures.done c.in-Done.is u told in
    let settles = c.in_ok-make_safe-in-Done.ensures.done now.0 now.1 in
    subst (HasRoomFrom way.project 0)
    (sym (settled_alone second third settles (reading third.disks.now) (reading_is_image third.disks.now) ∙ named_reads way puts c.args.prepared.now t ready first second adds alone))
    (room_placed way puts c.args.prepared.now t ready)

pub returns-in-Misplaced-clause-fits : goal.returns-in-Misplaced-clause-fits
returns-in-Misplaced-clause-fits g c = λ u told way puts t tree ready alone.
    let disk = g.met.T.Tree.tells_its_disk c.args.tree.now u told in
    let first = g.T.Tree.meaning c.args.tree.now in
    let same : u ≡ changed t (Written c.args.prepared.now.draft c.args.prepared.now.text) = disk.reads ∙ alone (reading first.disks.now) (reading_is_image first.disks.now) in
    let done = placed_is_done u (Renamed c.args.prepared.now.draft c.args.prepared.now.at) c.in_ok-rename.field-0 (c.in_ok-rename.ensures.answer u told)
    (subst (λ (w : FileTree). has_place w (Renamed c.args.prepared.now.draft c.args.prepared.now.at) ≡ true) (sym same) (name_has_place way puts c.args.prepared.now t tree ready)) in
    let misplaced = c.in-Misplaced.is in
    absurd cc
