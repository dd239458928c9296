use Rattle.std.proofs.lemmas.Result.{err_from_is_err_and, on_ok_weaker}
use Rattle.tree_dev.proofs.Stretches.{through_ends, through_from, through_then_through}
use Rattle.install_world.specs.Moving.{IsOnWay}
use Rattle.install_world.proofs.JournalEnds.{all_done_of, at_way, nothing_more, old_is, old_there, targets_of, way_then}
use Rattle.install_world.proofs.PartDone.{told_still}
use Rattle.install_world.proofs.PartFinish.{parents_then, still_through, way_reads}
use Rattle.install_world.proofs.RemovalRules.{writes_none_on, writes_none_start}
use Rattle.install_world.proofs.Segments.{install_segment, old_segment}
use Rattle.std.proofs.Common.{◌≡◌, ◌∙◌, ℕ, List, is_some, true, ap, refl, subst, sym}
use Rattle.path_name.specs.Paths.{without_last}
use Rattle.tree_dev.specs.Trees.{FileTree, entry_at, has_folder}
use Rattle.tree_dev.specs.Projects.{work_path}
use Rattle.install_world.proofs.RoomMade.{work_not_journal}
use Rattle.install_world.specs.Finishing.{FinishesAlike}
use Rattle.install_world.proofs.FinishSteps.{all_done_told, alike_old, alike_then, finished_without, stands_after, stands_here}
use Rattle.install_world.specs.InFlight.{old_path}
use Rattle.install_world.specs.Targets.{AreTargetPaths}
use Rattle.install_world.proofs.FoldersThere.{journal_above_old, journal_is_file, stands_paths, work_above}
use Rattle.tree_dev.specs.Disk.{reading}
use Rattle.install_world.specs.Removals.{OnlyRemoved}
use Rattle.install_world.proofs.FinishAgain.{keeps_alike, keeps_same, keeps_to_the_end}
use Rattle.tree_dev.specs.Projects.{file_at}
use Rattle.install_world.proofs.FinishStops.{made_leaves, stops_after, stops_at_once}
use Rattle.install_world.proofs.EndsAlike.{nothing_ends, way_then_ends}
use Rattle.install_world.specs.Finishing.{OnlyMade}
use Rattle.install_world.specs.InFlight.{IsPart}
use Rattle.install_world.specs.Blocked.{IsFirstBlocked}
use Rattle.install_world.proofs.BlockedParts.{blocked_then, first_blocked_before, made_old_needs}
use Rattle.install_world.proofs.FinishSteps.{stands_target}
use Rattle.install_world.proofs.ending.finish_journal.Goals as goal

pub child-requires : goal.child-requires
child-requires g c = install_segment

pub child-requires-2 : goal.child-requires-2
child-requires-2 g c = old_segment

pub returns-in_err-work-clause-writes_none : goal.returns-in_err-work-clause-writes_none
returns-in_err-work-clause-writes_none g c = let p = err_from_is_err_and c.from_residual.result c.from_residual.ensures.1 in rw (p.1, p.2) (writes_none_start _)

pub returns-in_err-work-clause-through : goal.returns-in_err-work-clause-through
returns-in_err-work-clause-through g c = λ t told whole way same by is each. way_then way _ _ _ (through_from (IsOnWay way) _ each) (λ now. nothing_more way _ now)

pub returns-in_err-old-clause-writes_none : goal.returns-in_err-old-clause-writes_none
returns-in_err-old-clause-writes_none g c =
    let p = err_from_is_err_and c.from_residual-in_err-old.result c.from_residual-in_err-old.ensures.1 in rw (p.1, p.2) (writes_none_start _)

pub returns-in_err-old-clause-through : goal.returns-in_err-old-clause-through
returns-in_err-old-clause-through g c = λ t told whole way same by is each. way_then way _ _ _ (through_from (IsOnWay way) _ each) (λ now. nothing_more way _ now)

pub returns-in_err-make_folder-clause-writes_none : goal.returns-in_err-make_folder-clause-writes_none
returns-in_err-make_folder-clause-writes_none g c =
    let p = err_from_is_err_and c.from_residual-in_err-make_folder.result c.from_residual-in_err-make_folder.ensures.1 in
    rw (p.1, p.2) c.in_err-make_folder.ensures.writes_none

pub returns-in_err-make_folder-clause-through : goal.returns-in_err-make_folder-clause-through
returns-in_err-make_folder-clause-through g c = λ t told whole way same by is each.
    let on = way_reads way (g.T.Tree.meaning c.args.tree.now) t (g.met.T.Tree.tells_its_disk c.args.tree.now t told) each in
    let there = old_there way t on c.args.project.now c.in_ok-old.old same (old_is c.args.project.now c.in_ok-work.work c.in_ok-old.old c.in_ok-work.ensures c.in_ok-old.ensures) in
    way_then way _ _ _ (still_through way _ _ (c.make_folder.ensures.still t told there) c.make_folder.ensures.writes_none.faults each) (λ now. nothing_more way _ now)

pub returns-in_err-finish_parts-clause-writes_none : goal.returns-in_err-finish_parts-clause-writes_none
returns-in_err-finish_parts-clause-writes_none g c =
    let p = err_from_is_err_and c.from_residual-in_err-finish_parts.result c.from_residual-in_err-finish_parts.ensures.1 in
    rw (p.1, p.2) (writes_none_on _ _ _ _ c.in_err-finish_parts.ensures.writes_none c.in_ok-make_folder.ensures.writes_none)

pub returns-in_err-finish_parts-clause-through : goal.returns-in_err-finish_parts-clause-through
returns-in_err-finish_parts-clause-through g c = λ t told whole way same by is each.
    let on = way_reads way (g.T.Tree.meaning c.args.tree.now) t (g.met.T.Tree.tells_its_disk c.args.tree.now t told) each in
    let there = old_there way t on c.args.project.now c.in_ok-old.old same (old_is c.args.project.now c.in_ok-work.work c.in_ok-old.old c.in_ok-work.ensures c.in_ok-old.ensures) in
    way_then way _ _ _
    (parents_then way _ _ _ t told c.make_folder.ensures.writes_none.tells c.make_folder.ensures.writes_none.faults (c.make_folder.ensures.still t told there)
    (λ u now. c.finish_parts.ensures.through u now (c.make_folder.ensures.writes_none.whole whole) way same (targets_of way c.args.journal.now by c.as_slice.result.now c.as_slice.ensures))
    each)
    (λ now. nothing_more way _ now)

pub returns-clause-writes_none : goal.returns-clause-writes_none
returns-clause-writes_none g c =
    writes_none_on _ _ _ _ c.end_journal.ensures.writes_none
    (writes_none_on _ _ _ _ c.in_ok-finish_parts.ensures.writes_none c.in_ok-make_folder.ensures.writes_none)

pub returns-clause-through : goal.returns-clause-through
returns-clause-through g c = λ t told whole way same by is each.
    let first = g.T.Tree.meaning c.args.tree.now in
    let second = g.T.Tree.meaning c.make_folder.new.tree in
    let third = g.T.Tree.meaning c.finish_parts.new.tree in
    let on = way_reads way first t (g.met.T.Tree.tells_its_disk c.args.tree.now t told) each in
    let there = old_there way t on c.args.project.now c.in_ok-old.old same (old_is c.args.project.now c.in_ok-work.work c.in_ok-old.old c.in_ok-work.ensures c.in_ok-old.ensures) in
    let targets = targets_of way c.args.journal.now by c.as_slice.result.now c.as_slice.ensures in
    let whole_second = c.make_folder.ensures.writes_none.whole whole in
    let now = told_still first second t c.make_folder.ensures.writes_none.tells told in
    let then = told_still second third now.0 c.finish_parts.ensures.writes_none.tells now.1 in
    let start = still_through way first second (c.make_folder.ensures.still t told there) c.make_folder.ensures.writes_none.faults each in
    let here = through_ends (IsOnWay way) first second start in
    way_then way first third _ (through_then_through (IsOnWay way) first second third (c.finish_parts.ensures.through now.0 now.1 whole_second way same targets) start)
    (λ each_third. c.end_journal.ensures.through then.0 then.1 (c.finish_parts.ensures.writes_none.whole whole_second) way (at_way way c.args.project.now c.args.at.now same is)
    (all_done_of way c.args.project.now c.as_slice.result.now then.0 third same targets (g.met.T.Tree.tells_its_disk c.finish_parts.new.tree then.0 then.1)
    (c.in_ok-finish_parts.ensures.done now.0 now.1 way.journal targets
    (stands_here way c.args.project.now second now.0 same (g.met.T.Tree.tells_its_disk c.make_folder.new.tree now.0 now.1) here))) each_third)

pub returns-clause-settled : goal.returns-clause-settled
returns-clause-settled g c = on_ok_weaker c.end_journal.result
    (λ settled t told whole way same by is each.
    let first = g.T.Tree.meaning c.args.tree.now in
    let second = g.T.Tree.meaning c.make_folder.new.tree in
    let third = g.T.Tree.meaning c.finish_parts.new.tree in
    let on = way_reads way first t (g.met.T.Tree.tells_its_disk c.args.tree.now t told) each in
    let there = old_there way t on c.args.project.now c.in_ok-old.old same (old_is c.args.project.now c.in_ok-work.work c.in_ok-old.old c.in_ok-work.ensures c.in_ok-old.ensures) in
    let targets = targets_of way c.args.journal.now by c.as_slice.result.now c.as_slice.ensures in
    let whole_second = c.make_folder.ensures.writes_none.whole whole in
    let now = told_still first second t c.make_folder.ensures.writes_none.tells told in
    let then = told_still second third now.0 c.finish_parts.ensures.writes_none.tells now.1 in
    let start = still_through way first second (c.make_folder.ensures.still t told there) c.make_folder.ensures.writes_none.faults each in
    let here = through_ends (IsOnWay way) first second start in
    let disk = g.met.T.Tree.tells_its_disk c.finish_parts.new.tree then.0 then.1 in
    settled then.0 then.1 way (at_way way c.args.project.now c.args.at.now same is)
    (all_done_of way c.args.project.now c.as_slice.result.now then.0 third same targets disk (c.in_ok-finish_parts.ensures.done now.0 now.1 way.journal targets
    (stands_here way c.args.project.now second now.0 same (g.met.T.Tree.tells_its_disk c.make_folder.new.tree now.0 now.1) here)))
    (way_reads way third then.0 disk (through_ends (IsOnWay way) second third (c.finish_parts.ensures.through now.0 now.1 whole_second way same targets here))))
    c.end_journal.ensures.settled

pub returns-in_err-work-clause-fits : goal.returns-in_err-work-clause-fits
returns-in_err-work-clause-fits g c = let p = err_from_is_err_and c.from_residual.result c.from_residual.ensures.1 in rw (p.1, p.2) (λ t told whole way same by is each. refl)

pub returns-in_err-old-clause-fits : goal.returns-in_err-old-clause-fits
returns-in_err-old-clause-fits g c = let p = err_from_is_err_and c.from_residual-in_err-old.result c.from_residual-in_err-old.ensures.1 in rw (p.1, p.2) (λ t told whole way same by is each. refl)

pub returns-in_err-make_folder-clause-fits : goal.returns-in_err-make_folder-clause-fits
returns-in_err-make_folder-clause-fits g c =
    let p = err_from_is_err_and c.from_residual-in_err-make_folder.result c.from_residual-in_err-make_folder.ensures.1 in
    rw (p.1, p.2) (λ t told whole way same by is each.
    let first = g.T.Tree.meaning c.args.tree.now in
    let second = g.T.Tree.meaning c.make_folder.new.tree in
    let on = way_reads way first t (g.met.T.Tree.tells_its_disk c.args.tree.now t told) each in
    let there = old_there way t on c.args.project.now c.in_ok-old.old same (old_is c.args.project.now c.in_ok-work.work c.in_ok-old.old c.in_ok-work.ensures c.in_ok-old.ensures) in
    c.in_err-make_folder.ensures.fits t told there)

pub returns-in_err-finish_parts-clause-fits : goal.returns-in_err-finish_parts-clause-fits
returns-in_err-finish_parts-clause-fits g c =
    let p = err_from_is_err_and c.from_residual-in_err-finish_parts.result c.from_residual-in_err-finish_parts.ensures.1 in
    rw (p.1, p.2) (λ t told whole way same by is each.
    let first = g.T.Tree.meaning c.args.tree.now in
    let second = g.T.Tree.meaning c.make_folder.new.tree in
    let on = way_reads way first t (g.met.T.Tree.tells_its_disk c.args.tree.now t told) each in
    let there = old_there way t on c.args.project.now c.in_ok-old.old same (old_is c.args.project.now c.in_ok-work.work c.in_ok-old.old c.in_ok-work.ensures c.in_ok-old.ensures) in
    let targets = targets_of way c.args.journal.now by c.as_slice.result.now c.as_slice.ensures in
    let whole_second = c.make_folder.ensures.writes_none.whole whole in
    let now = told_still first second t c.make_folder.ensures.writes_none.tells told in
    let start = still_through way first second (c.make_folder.ensures.still t told there) c.make_folder.ensures.writes_none.faults each in
    let here = through_ends (IsOnWay way) first second start in
    c.in_err-finish_parts.ensures.fits now.0 now.1 whole_second way same targets here)

pub returns-clause-fits : goal.returns-clause-fits
returns-clause-fits g c = λ t told whole way same by is each.
    let first = g.T.Tree.meaning c.args.tree.now in
    let second = g.T.Tree.meaning c.make_folder.new.tree in
    let on = way_reads way first t (g.met.T.Tree.tells_its_disk c.args.tree.now t told) each in
    let there = old_there way t on c.args.project.now c.in_ok-old.old same (old_is c.args.project.now c.in_ok-work.work c.in_ok-old.old c.in_ok-work.ensures c.in_ok-old.ensures) in
    let targets = targets_of way c.args.journal.now by c.as_slice.result.now c.as_slice.ensures in
    let whole_second = c.make_folder.ensures.writes_none.whole whole in
    let now = told_still first second t c.make_folder.ensures.writes_none.tells told in
    let start = still_through way first second (c.make_folder.ensures.still t told there) c.make_folder.ensures.writes_none.faults each in
    let here = through_ends (IsOnWay way) first second start in
    let third = g.T.Tree.meaning c.finish_parts.new.tree in
    let then = told_still second third now.0 c.finish_parts.ensures.writes_none.tells now.1 in
    let disk = g.met.T.Tree.tells_its_disk c.finish_parts.new.tree then.0 then.1 in
    let last = way_reads way third then.0 disk (through_ends (IsOnWay way) second third (c.finish_parts.ensures.through now.0 now.1 whole_second way same targets here)) in
    c.end_journal.ensures.fits then.0 then.1 way (at_way way c.args.project.now c.args.at.now same is) last.stands

pub returns-clause-work : goal.returns-clause-work
returns-clause-work g c = on_ok_weaker c.end_journal.result
    (λ others t told is stands u after.
    let project = c.args.project.now in
    let journal = c.args.journal.now in
    let first = g.T.Tree.meaning c.args.tree.now in
    let second = g.T.Tree.meaning c.make_folder.new.tree in
    let third = g.T.Tree.meaning c.finish_parts.new.tree in
    let now = told_still first second t c.make_folder.ensures.writes_none.tells told in
    let then = told_still second third now.0 c.finish_parts.ensures.writes_none.tells now.1 in
    let disk = g.met.T.Tree.tells_its_disk c.make_folder.new.tree now.0 now.1 in
    let last = g.met.T.Tree.tells_its_disk c.finish_parts.new.tree then.0 then.1 in
    let here = subst (λ (p : List (List ℕ)). is_some (entry_at now.0 p) ≡ true) (old_is project c.in_ok-work.work c.in_ok-old.old c.in_ok-work.ensures c.in_ok-old.ensures) (c.in_ok-make_folder.ensures.there now.0 now.1) in
    let paths = subst AreTargetPaths (sym c.as_slice.ensures) (stands_paths project journal t stands) in
    let kept = subst (λ (w : FileTree). is_some (entry_at w (old_path project)) ≡ true) (sym last.reads) (c.finish_parts.ensures.old now.0 now.1 paths here) in
    others then.0 then.1 u after (work_path project) (λ e. work_not_journal project (e ∙ is))
    ∙ work_above project then.0 (g.met.T.Tree.tells_trees c.finish_parts.new.tree then.0 then.1) kept)
    c.end_journal.ensures.others

pub returns-clause-finished : goal.returns-clause-finished
returns-clause-finished g c = on_ok_weaker c.end_journal.result
    (λ left t told is stands.
    let project = c.args.project.now in
    let journal = c.args.journal.now in
    let first = g.T.Tree.meaning c.args.tree.now in
    let second = g.T.Tree.meaning c.make_folder.new.tree in
    let third = g.T.Tree.meaning c.finish_parts.new.tree in
    let now = told_still first second t c.make_folder.ensures.writes_none.tells told in
    let then = told_still second third now.0 c.finish_parts.ensures.writes_none.tells now.1 in
    let disk = g.met.T.Tree.tells_its_disk c.make_folder.new.tree now.0 now.1 in
    let last = g.met.T.Tree.tells_its_disk c.finish_parts.new.tree then.0 then.1 in
    let made = alike_old project c.in_ok-old.old journal t first second (g.met.T.Tree.tells_its_disk c.args.tree.now t told)
    (old_is project c.in_ok-work.work c.in_ok-old.old c.in_ok-work.ensures c.in_ok-old.ensures) c.make_folder.ensures.makes in
    let moved = alike_then project journal t now.0 _ second disk made stands
    (λ then_stands. c.finish_parts.ensures.alike now.0 now.1 journal (sym c.as_slice.ensures) then_stands) in
    let done = all_done_told project c.as_slice.result.now journal.targets then.0 third c.as_slice.ensures last
    (c.in_ok-finish_parts.ensures.done now.0 now.1 journal (sym c.as_slice.ensures) (stands_after project journal t now.0 second disk stands made)) in
    λ u image. finished_without project c.args.at.now journal t then.0 u is (stands_after project journal t then.0 third last stands moved)
    (subst (FinishesAlike project journal t) (sym last.reads) moved) (g.met.T.Tree.tells_trees c.finish_parts.new.tree then.0 then.1) done (left then.0 then.1 u image))
    c.end_journal.ensures.left

pub returns-in_err-make_folder-clause-cause : goal.returns-in_err-make_folder-clause-cause
returns-in_err-make_folder-clause-cause g c = λ path is.
    let p = err_from_is_err_and c.from_residual-in_err-make_folder.result c.from_residual-in_err-make_folder.ensures.1 in
    let given = p.1 in
    let from = p.2 in
    absurd (c.in_err-make_folder.ensures.not_other path cc)

pub returns-in_err-finish_parts-clause-cause : goal.returns-in_err-finish_parts-clause-cause
returns-in_err-finish_parts-clause-cause g c = λ path is.
    let p = err_from_is_err_and c.from_residual-in_err-finish_parts.result c.from_residual-in_err-finish_parts.ensures.1 in
    let given = p.1 in
    let from = p.2 in
    c.in_err-finish_parts.ensures.cause path cc

pub returns-clause-cause : goal.returns-clause-cause
returns-clause-cause g c = λ path is. absurd (c.end_journal.ensures.not_other path is)

pub returns-in_err-work-clause-never_vanished : goal.returns-in_err-work-clause-never_vanished
returns-in_err-work-clause-never_vanished g c = let p = err_from_is_err_and c.from_residual.result c.from_residual.ensures.1 in rw (p.1, p.2) (λ t told is stands. refl)

pub returns-in_err-old-clause-never_vanished : goal.returns-in_err-old-clause-never_vanished
returns-in_err-old-clause-never_vanished g c = let p = err_from_is_err_and c.from_residual-in_err-old.result c.from_residual-in_err-old.ensures.1 in rw (p.1, p.2) (λ t told is stands. refl)

pub returns-in_err-make_folder-clause-never_vanished : goal.returns-in_err-make_folder-clause-never_vanished
returns-in_err-make_folder-clause-never_vanished g c =
    let p = err_from_is_err_and c.from_residual-in_err-make_folder.result c.from_residual-in_err-make_folder.ensures.1 in
    rw (p.1, p.2) (λ t told is stands.
    let project = c.args.project.now in
    c.in_err-make_folder.ensures.never_vanished t told
    (ap (λ (p : List (List ℕ)). has_folder t (without_last p)) (old_is project c.in_ok-work.work c.in_ok-old.old c.in_ok-work.ensures c.in_ok-old.ensures)
    ∙ journal_above_old project t (g.met.T.Tree.tells_trees c.args.tree.now t told) c.args.journal.now stands))

pub returns-in_err-finish_parts-clause-never_vanished : goal.returns-in_err-finish_parts-clause-never_vanished
returns-in_err-finish_parts-clause-never_vanished g c =
    let p = err_from_is_err_and c.from_residual-in_err-finish_parts.result c.from_residual-in_err-finish_parts.ensures.1 in
    rw (p.1, p.2) (λ t told is stands.
    let project = c.args.project.now in
    let journal = c.args.journal.now in
    let now = told_still (g.T.Tree.meaning c.args.tree.now) (g.T.Tree.meaning c.make_folder.new.tree) t c.make_folder.ensures.writes_none.tells told in
    let here = subst (λ (p : List (List ℕ)). is_some (entry_at now.0 p) ≡ true) (old_is project c.in_ok-work.work c.in_ok-old.old c.in_ok-work.ensures c.in_ok-old.ensures) (c.in_ok-make_folder.ensures.there now.0 now.1) in
    let paths = subst AreTargetPaths (sym c.as_slice.ensures) (stands_paths project journal t stands) in
    c.in_err-finish_parts.ensures.never_vanished now.0 now.1 paths here)

pub returns-clause-never_vanished : goal.returns-clause-never_vanished
returns-clause-never_vanished g c = λ t told is stands.
    let project = c.args.project.now in
    let journal = c.args.journal.now in
    let first = g.T.Tree.meaning c.args.tree.now in
    let second = g.T.Tree.meaning c.make_folder.new.tree in
    let third = g.T.Tree.meaning c.finish_parts.new.tree in
    let now = told_still first second t c.make_folder.ensures.writes_none.tells told in
    let then = told_still second third now.0 c.finish_parts.ensures.writes_none.tells now.1 in
    let disk = g.met.T.Tree.tells_its_disk c.make_folder.new.tree now.0 now.1 in
    let last = g.met.T.Tree.tells_its_disk c.finish_parts.new.tree then.0 then.1 in
    let made = alike_old project c.in_ok-old.old journal t first second (g.met.T.Tree.tells_its_disk c.args.tree.now t told)
    (old_is project c.in_ok-work.work c.in_ok-old.old c.in_ok-work.ensures c.in_ok-old.ensures) c.make_folder.ensures.makes in
    let moved = alike_then project journal t now.0 _ second disk made stands
    (λ then_stands. c.finish_parts.ensures.alike now.0 now.1 journal (sym c.as_slice.ensures) then_stands) in
    c.end_journal.ensures.never_vanished then.0 then.1 (journal_is_file project c.args.at.now journal then.0 is (stands_after project journal t then.0 third last stands moved))

pub returns-in_err-work-clause-again : goal.returns-in_err-work-clause-again
returns-in_err-work-clause-again g c = λ t told is stands. keeps_same c.args.project.now t _ (sym (g.met.T.Tree.tells_its_disk c.args.tree.now t told).reads)

pub returns-in_err-old-clause-again : goal.returns-in_err-old-clause-again
returns-in_err-old-clause-again g c = λ t told is stands. keeps_same c.args.project.now t _ (sym (g.met.T.Tree.tells_its_disk c.args.tree.now t told).reads)

pub returns-in_err-make_folder-clause-again : goal.returns-in_err-make_folder-clause-again
returns-in_err-make_folder-clause-again g c = λ t told is stands.
    let project = c.args.project.now in
    let journal = c.args.journal.now in
    let first = g.T.Tree.meaning c.args.tree.now in
    let second = g.T.Tree.meaning c.make_folder.new.tree in
    let made = alike_old project c.in_ok-old.old journal t first second (g.met.T.Tree.tells_its_disk c.args.tree.now t told)
    (old_is project c.in_ok-work.work c.in_ok-old.old c.in_ok-work.ensures c.in_ok-old.ensures) c.make_folder.ensures.makes in
    keeps_alike project journal t (reading second.disks.now) stands made

pub returns-in_err-finish_parts-clause-again : goal.returns-in_err-finish_parts-clause-again
returns-in_err-finish_parts-clause-again g c = λ t told is stands.
    let project = c.args.project.now in
    let journal = c.args.journal.now in
    let first = g.T.Tree.meaning c.args.tree.now in
    let second = g.T.Tree.meaning c.make_folder.new.tree in
    let made = alike_old project c.in_ok-old.old journal t first second (g.met.T.Tree.tells_its_disk c.args.tree.now t told)
    (old_is project c.in_ok-work.work c.in_ok-old.old c.in_ok-work.ensures c.in_ok-old.ensures) c.make_folder.ensures.makes in
    let now = told_still first second t c.make_folder.ensures.writes_none.tells told in
    let disk = g.met.T.Tree.tells_its_disk c.make_folder.new.tree now.0 now.1 in
    let moved = alike_then project journal t now.0 (reading (g.T.Tree.meaning c.finish_parts.new.tree).disks.now) second disk made stands
    (λ then_stands. c.finish_parts.ensures.alike now.0 now.1 journal (sym c.as_slice.ensures) then_stands) in
    keeps_alike project journal t (reading (g.T.Tree.meaning c.finish_parts.new.tree).disks.now) stands moved

pub returns-clause-again : goal.returns-clause-again
returns-clause-again g c = λ t told is stands.
    let project = c.args.project.now in
    let journal = c.args.journal.now in
    let first = g.T.Tree.meaning c.args.tree.now in
    let second = g.T.Tree.meaning c.make_folder.new.tree in
    let made = alike_old project c.in_ok-old.old journal t first second (g.met.T.Tree.tells_its_disk c.args.tree.now t told)
    (old_is project c.in_ok-work.work c.in_ok-old.old c.in_ok-work.ensures c.in_ok-old.ensures) c.make_folder.ensures.makes in
    let now = told_still first second t c.make_folder.ensures.writes_none.tells told in
    let disk = g.met.T.Tree.tells_its_disk c.make_folder.new.tree now.0 now.1 in
    let moved = alike_then project journal t now.0 (reading (g.T.Tree.meaning c.finish_parts.new.tree).disks.now) second disk made stands
    (λ then_stands. c.finish_parts.ensures.alike now.0 now.1 journal (sym c.as_slice.ensures) then_stands) in
    let third = g.T.Tree.meaning c.finish_parts.new.tree in
    let then = told_still second third now.0 c.finish_parts.ensures.writes_none.tells now.1 in
    let last = g.met.T.Tree.tells_its_disk c.finish_parts.new.tree then.0 then.1 in
    let done = all_done_told project c.as_slice.result.now journal.targets then.0 third c.as_slice.ensures last
    (c.in_ok-finish_parts.ensures.done now.0 now.1 journal (sym c.as_slice.ensures) (stands_after project journal t now.0 second disk stands made)) in
    keeps_to_the_end project c.args.at.now journal t then.0 (reading (g.T.Tree.meaning c.end_journal.new.tree).disks.now) is stands
    (subst (FinishesAlike project journal t) (sym last.reads) moved) (stands_after project journal t then.0 third last stands moved)
    (g.met.T.Tree.tells_trees c.finish_parts.new.tree then.0 then.1) done
    (subst (λ (w : FileTree). OnlyRemoved c.args.at.now w (reading (g.T.Tree.meaning c.end_journal.new.tree).disks.now)) (sym last.reads) c.end_journal.ensures.removes)

pub returns-in_err-make_folder-clause-stops : goal.returns-in_err-make_folder-clause-stops
returns-in_err-make_folder-clause-stops g c = λ path is t told stands.
    let project = c.args.project.now in
    let journal = c.args.journal.now in
    let first = g.T.Tree.meaning c.args.tree.now in
    let second = g.T.Tree.meaning c.make_folder.new.tree in
    let was = g.met.T.Tree.tells_its_disk c.args.tree.now t told in (
      0,
      stops_at_once project journal t (reading second.disks.now)
          (λ at. made_leaves c.in_ok-old.old at (reading first.disks.now) (reading second.disks.now) c.make_folder.ensures.makes ∙ ap (λ (w : FileTree). file_at w at) (sym was.reads)),
    )

pub returns-in_err-finish_parts-clause-stops : goal.returns-in_err-finish_parts-clause-stops
returns-in_err-finish_parts-clause-stops g c = λ path is t told stands.
    let p = err_from_is_err_and c.from_residual-in_err-finish_parts.result c.from_residual-in_err-finish_parts.ensures.1 in
    let given = p.1 in
    let from = p.2 in
    let project = c.args.project.now in
    let journal = c.args.journal.now in
    let first = g.T.Tree.meaning c.args.tree.now in
    let second = g.T.Tree.meaning c.make_folder.new.tree in
    let was = g.met.T.Tree.tells_its_disk c.args.tree.now t told in
    let made = alike_old project c.in_ok-old.old journal t first second was (old_is project c.in_ok-work.work c.in_ok-old.old c.in_ok-work.ensures c.in_ok-old.ensures) c.make_folder.ensures.makes in
    let now = told_still first second t c.make_folder.ensures.writes_none.tells told in
    let disk = g.met.T.Tree.tells_its_disk c.make_folder.new.tree now.0 now.1 in
    let found = c.in_err-finish_parts.ensures.stops path (cc) now.0 now.1 journal (sym c.as_slice.ensures) (stands_after project journal t now.0 second disk stands made) in (
      found.0,
      stops_after project journal found.0 t now.0 (reading (g.T.Tree.meaning c.finish_parts.new.tree).disks.now)
          (λ at. ap (λ (w : FileTree). file_at w at) disk.reads ∙ made_leaves c.in_ok-old.old at (reading first.disks.now) (reading second.disks.now) c.make_folder.ensures.makes
          ∙ ap (λ (w : FileTree). file_at w at) (sym was.reads))
          (subst (FinishesAlike project journal t) (sym disk.reads) made) found.1,
    )

pub returns-clause-stops : goal.returns-clause-stops
returns-clause-stops g c = λ path is. absurd (c.end_journal.ensures.not_other path is)

pub returns-in_err-work-clause-ends : goal.returns-in_err-work-clause-ends
returns-in_err-work-clause-ends g c = λ t told whole way same by is each. way_then_ends way _ _ _ (through_from (IsOnWay way) _ each) (λ now. nothing_ends way _ now)

pub returns-in_err-old-clause-ends : goal.returns-in_err-old-clause-ends
returns-in_err-old-clause-ends g c = λ t told whole way same by is each. way_then_ends way _ _ _ (through_from (IsOnWay way) _ each) (λ now. nothing_ends way _ now)

pub returns-in_err-make_folder-clause-ends : goal.returns-in_err-make_folder-clause-ends
returns-in_err-make_folder-clause-ends g c = λ t told whole way same by is each.
    let on = way_reads way (g.T.Tree.meaning c.args.tree.now) t (g.met.T.Tree.tells_its_disk c.args.tree.now t told) each in
    let there = old_there way t on c.args.project.now c.in_ok-old.old same (old_is c.args.project.now c.in_ok-work.work c.in_ok-old.old c.in_ok-work.ensures c.in_ok-old.ensures) in
    way_then_ends way _ _ _ (still_through way _ _ (c.make_folder.ensures.still t told there) c.make_folder.ensures.writes_none.faults each) (λ now. nothing_ends way _ now)

pub returns-in_err-finish_parts-clause-ends : goal.returns-in_err-finish_parts-clause-ends
returns-in_err-finish_parts-clause-ends g c = λ t told whole way same by is each.
    let on = way_reads way (g.T.Tree.meaning c.args.tree.now) t (g.met.T.Tree.tells_its_disk c.args.tree.now t told) each in
    let there = old_there way t on c.args.project.now c.in_ok-old.old same (old_is c.args.project.now c.in_ok-work.work c.in_ok-old.old c.in_ok-work.ensures c.in_ok-old.ensures) in
    way_then_ends way _ _ _
    (parents_then way _ _ _ t told c.make_folder.ensures.writes_none.tells c.make_folder.ensures.writes_none.faults (c.make_folder.ensures.still t told there)
    (λ u now. c.finish_parts.ensures.through u now (c.make_folder.ensures.writes_none.whole whole) way same (targets_of way c.args.journal.now by c.as_slice.result.now c.as_slice.ensures))
    each)
    (λ now. nothing_ends way _ now)

pub returns-clause-ends : goal.returns-clause-ends
returns-clause-ends g c = λ t told whole way same by is each.
    let first = g.T.Tree.meaning c.args.tree.now in
    let second = g.T.Tree.meaning c.make_folder.new.tree in
    let third = g.T.Tree.meaning c.finish_parts.new.tree in
    let on = way_reads way first t (g.met.T.Tree.tells_its_disk c.args.tree.now t told) each in
    let there = old_there way t on c.args.project.now c.in_ok-old.old same (old_is c.args.project.now c.in_ok-work.work c.in_ok-old.old c.in_ok-work.ensures c.in_ok-old.ensures) in
    let targets = targets_of way c.args.journal.now by c.as_slice.result.now c.as_slice.ensures in
    let whole_second = c.make_folder.ensures.writes_none.whole whole in
    let now = told_still first second t c.make_folder.ensures.writes_none.tells told in
    let then = told_still second third now.0 c.finish_parts.ensures.writes_none.tells now.1 in
    let start = still_through way first second (c.make_folder.ensures.still t told there) c.make_folder.ensures.writes_none.faults each in
    let here = through_ends (IsOnWay way) first second start in
    way_then_ends way first third _ (through_then_through (IsOnWay way) first second third (c.finish_parts.ensures.through now.0 now.1 whole_second way same targets) start)
    (λ each_third. c.end_journal.ensures.ends then.0 then.1 (c.finish_parts.ensures.writes_none.whole whole_second) way (at_way way c.args.project.now c.args.at.now same is)
    (all_done_of way c.args.project.now c.as_slice.result.now then.0 third same targets (g.met.T.Tree.tells_its_disk c.finish_parts.new.tree then.0 then.1)
    (c.in_ok-finish_parts.ensures.done now.0 now.1 way.journal targets
    (stands_here way c.args.project.now second now.0 same (g.met.T.Tree.tells_its_disk c.make_folder.new.tree now.0 now.1) here))) each_third)

pub returns-in_err-make_folder-clause-blocked : goal.returns-in_err-make_folder-clause-blocked
returns-in_err-make_folder-clause-blocked g c = λ path is.
    let p = err_from_is_err_and c.from_residual-in_err-make_folder.result c.from_residual-in_err-make_folder.ensures.1 in
    let given = p.1 in
    let from = p.2 in
    absurd (c.in_err-make_folder.ensures.not_other path cc)

pub returns-in_err-finish_parts-clause-blocked : goal.returns-in_err-finish_parts-clause-blocked
returns-in_err-finish_parts-clause-blocked g c = λ path is.
    let p = err_from_is_err_and c.from_residual-in_err-finish_parts.result c.from_residual-in_err-finish_parts.ensures.1 in
    let given = p.1 in
    let from = p.2 in
    let found = c.in_err-finish_parts.ensures.blocked path cc in
    λ t told stands.
    let project = c.args.project.now in
    let journal = c.args.journal.now in
    let first = g.T.Tree.meaning c.args.tree.now in
    let second = g.T.Tree.meaning c.make_folder.new.tree in
    let was = g.met.T.Tree.tells_its_disk c.args.tree.now t told in
    let is_old = old_is project c.in_ok-work.work c.in_ok-old.old c.in_ok-work.ensures c.in_ok-old.ensures in
    let made = alike_old project c.in_ok-old.old journal t first second was is_old c.make_folder.ensures.makes in
    let now = told_still first second t c.make_folder.ensures.writes_none.tells told in
    let disk = g.met.T.Tree.tells_its_disk c.make_folder.new.tree now.0 now.1 in
    let then = stands_after project journal t now.0 second disk stands made in
    let old = subst (λ (p : List (List ℕ)). is_some (entry_at now.0 p) ≡ true) is_old (c.in_ok-make_folder.ensures.there now.0 now.1) in
    let makes : OnlyMade (old_path project) t now.0 = subst (λ (p : List (List ℕ)). OnlyMade p t now.0) is_old (subst (λ (w : FileTree). OnlyMade c.in_ok-old.old t w) (sym disk.reads)
    (subst (λ (w : FileTree). OnlyMade c.in_ok-old.old w (reading second.disks.now)) (sym was.reads) c.make_folder.ensures.makes)) in
    first_blocked_before project journal.targets t now.0 (λ number target part. made_old_needs project number target (stands_target project journal t stands number target part) t now.0 makes) path
    (subst (λ targets. IsFirstBlocked project targets now.0 path) c.as_slice.ensures (found now.0 now.1 journal (sym c.as_slice.ensures) then old))

pub returns-clause-blocked : goal.returns-clause-blocked
returns-clause-blocked g c = λ path is. absurd (c.end_journal.ensures.not_other path is)

pub returns-clause-free : goal.returns-clause-free
returns-clause-free g c = on_ok_weaker c.end_journal.result
    (λ others t told stands number target part path blocked.
    let project = c.args.project.now in
    let journal = c.args.journal.now in
    let first = g.T.Tree.meaning c.args.tree.now in
    let second = g.T.Tree.meaning c.make_folder.new.tree in
    let was = g.met.T.Tree.tells_its_disk c.args.tree.now t told in
    let is_old = old_is project c.in_ok-work.work c.in_ok-old.old c.in_ok-work.ensures c.in_ok-old.ensures in
    let made = alike_old project c.in_ok-old.old journal t first second was is_old c.make_folder.ensures.makes in
    let now = told_still first second t c.make_folder.ensures.writes_none.tells told in
    let disk = g.met.T.Tree.tells_its_disk c.make_folder.new.tree now.0 now.1 in
    let then = stands_after project journal t now.0 second disk stands made in
    let old = subst (λ (p : List (List ℕ)). is_some (entry_at now.0 p) ≡ true) is_old (c.in_ok-make_folder.ensures.there now.0 now.1) in
    let makes : OnlyMade (old_path project) t now.0 = subst (λ (p : List (List ℕ)). OnlyMade p t now.0) is_old (subst (λ (w : FileTree). OnlyMade c.in_ok-old.old t w) (sym disk.reads)
    (subst (λ (w : FileTree). OnlyMade c.in_ok-old.old w (reading second.disks.now)) (sym was.reads) c.make_folder.ensures.makes)) in
    c.in_ok-finish_parts.ensures.free now.0 now.1 journal (sym c.as_slice.ensures) then old number target (subst (λ targets. IsPart targets number target) (sym c.as_slice.ensures) part) path
    (blocked_then project number target t now.0 (made_old_needs project number target (stands_target project journal t stands number target part) t now.0 makes) path blocked))
    c.end_journal.ensures.others
