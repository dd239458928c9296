use Rattle.std.proofs.Common.{◌≡◌, ◌∙◌, false, ℕ, List, Result, Ok, sym, subst, inl}
use Rattle.std.specs.Prelude.{IsTrue}
use Rattle.std.proofs.lemmas.Result.{err_from_is_err_and}
use Rattle.tree_dev.specs.Device.{OfTold}
use Rattle.tree_dev.specs.Projects.{file_at}
use Rattle.tree_dev.specs.Steady.{EachImage}
use Rattle.tree_dev.proofs.SteadyRules.{steady_on, steady_start}
use Rattle.install_world.specs.InFlight.{Files}
use Rattle.std.proofs.lemmas.Bool.{false≢true}
use Rattle.run_answers.specs.Faults.{is_free, is_of_device}
use Rattle.run_answers.specs.Steps.{Tells}
use Rattle.run_answers.specs.declared.refusal.Refusal.{Refusal}
use Rattle.install_commands.specs.Working.{IsInstalled, committed_in, files_after}
use Rattle.install_commands.proofs.Ends.{commit_here, committed_settles, committed_through, done_or_free, refused_on, rose_in_either, still_claimed, unchanged, unchanged_files, whether_ok, whether_refused}
use Rattle.install_commands.proofs.Faults.{not_free, rose_after}
use Rattle.install_commands.proofs.Flights.{steady_in_flight, steady_stays}
use Rattle.install_commands.proofs.ToldEnds.{alone_steadily, installed_as, kept_steadily, refused_steadily, removed_steadily, told_image}
use Rattle.install_commands.specs.Working.{files_written}
use Rattle.install_commands.proofs.WriteCounts.{journal_written, no_journal_written, none_written}
use Rattle.install_commands.proofs.claimed.end_made.Goals as goal

-- ---- a job without parts

pub make_ready-requires-clause-some : goal.make_ready-requires-clause-some
make_ready-requires-clause-some g c = λ none. let empty = c.is_empty.ensures.1 none in absurd (false≢true (sym c.if-is_empty.false ∙ empty))

pub returns-then-is_empty-clause-told : goal.returns-then-is_empty-clause-told
returns-then-is_empty-clause-told g c = λ t told.
    subst (λ (wanted : Result (List ℕ) Refusal). Tells (λ lines. lines) wanted c.release_done.result)
    (sym (unchanged c.args.hold.project t c.args.left.now.left c.args.work (c.is_empty.ensures.0 c.if-is_empty.true)))
    (c.release_done.ensures.told t told (c.requires.claimed t told).folder)

pub returns-then-is_empty-clause-through : goal.returns-then-is_empty-clause-through
returns-then-is_empty-clause-through g c = λ t told start each.
    steady_in_flight c.args.hold.project start (g.T.Tree.meaning c.args.tree.now) (g.T.Tree.meaning c.release_done.new.tree) each c.release_done.ensures.steady
    (files_after c.args.hold.project start t c.args.left.now.left (Ok c.args.work))

pub returns-then-is_empty-clause-settled : goal.returns-then-is_empty-clause-settled
returns-then-is_empty-clause-settled g c = whether_ok c.release_done.result (λ t told start each.
    subst (λ (files : Files). EachImage (g.T.Tree.meaning c.release_done.new.tree) (IsInstalled c.args.hold.project start files))
    (sym (unchanged_files c.args.hold.project start t c.args.left.now.left c.args.work (c.is_empty.ensures.0 c.if-is_empty.true)))
    (steady_stays c.args.hold.project start (g.T.Tree.meaning c.args.tree.now) (g.T.Tree.meaning c.release_done.new.tree) each c.release_done.ensures.steady))

pub returns-then-is_empty-clause-refused : goal.returns-then-is_empty-clause-refused
returns-then-is_empty-clause-refused g c = λ t told start each.
    whether_refused (λ refusal. is_free refusal ≡ false → EachImage (g.T.Tree.meaning c.release_done.new.tree) (IsInstalled c.args.hold.project start (file_at start))) c.release_done.result
    (λ refusal other. steady_stays c.args.hold.project start (g.T.Tree.meaning c.args.tree.now) (g.T.Tree.meaning c.release_done.new.tree) each c.release_done.ensures.steady)

pub returns-then-is_empty-clause-released : goal.returns-then-is_empty-clause-released
returns-then-is_empty-clause-released g c = λ t told.
    done_or_free c.args.work.lines c.release_done.result (c.release_done.ensures.told t told (c.requires.claimed t told).folder) c.release_done.ensures.released

-- ---- a commit that stopped

pub returns-in_err-commit_and_release-in-Ok-clause-told : goal.returns-in_err-commit_and_release-in-Ok-clause-told
returns-in_err-commit_and_release-in-Ok-clause-told g c =
    let p = err_from_is_err_and c.from_residual.result c.from_residual.ensures.1 in
    rw (p.1, p.2) (λ t told.
    let now = still_claimed c.args.hold.project (g.T.Tree.meaning c.args.tree.now) (g.T.Tree.meaning c.make_ready.new.tree) false t c.in-Ok.ensures.staging told (c.requires.claimed t told) in
    let job = c.in-Ok.ensures.staged t told now.0 now.1 in
    inl (commit_here c.args.hold.project t now.0 c.args.work c.in-Ok.prepared (g.T.Tree.meaning c.make_ready.new.tree) (g.T.Tree.meaning c.commit_and_release.new.tree) job.0 job.1
    c.in-Ok.ensures.ready (IsTrue (is_free c.in_err-commit_and_release-in-Ok.field-0.0)) (c.in_err-commit_and_release-in-Ok.ensures.told now.0 now.1)))

pub returns-in_err-commit_and_release-in-Ok-clause-through : goal.returns-in_err-commit_and_release-in-Ok-clause-through
returns-in_err-commit_and_release-in-Ok-clause-through g c = λ t told start each.
    let now = still_claimed c.args.hold.project (g.T.Tree.meaning c.args.tree.now) (g.T.Tree.meaning c.make_ready.new.tree) false t c.in-Ok.ensures.staging told (c.requires.claimed t told) in
    let job = c.in-Ok.ensures.staged t told now.0 now.1 in
    committed_through c.args.hold.project t now.0 c.args.work c.in-Ok.prepared (g.T.Tree.meaning c.make_ready.new.tree) (g.T.Tree.meaning c.commit_and_release.new.tree) job.0 job.1
    c.in-Ok.ensures.ready start (g.T.Tree.meaning c.args.tree.now) c.args.left.now.left c.args.work.lines (c.in-Ok.ensures.told t told) each c.in-Ok.ensures.staging.steady
    (c.commit_and_release.ensures.through now.0 now.1)

pub returns-in_err-commit_and_release-in-Ok-clause-refused : goal.returns-in_err-commit_and_release-in-Ok-clause-refused
returns-in_err-commit_and_release-in-Ok-clause-refused g c =
    let p = err_from_is_err_and c.from_residual.result c.from_residual.ensures.1 in
    rw (p.1, p.2) (λ t told start each.
    let now = still_claimed c.args.hold.project (g.T.Tree.meaning c.args.tree.now) (g.T.Tree.meaning c.make_ready.new.tree) false t c.in-Ok.ensures.staging told (c.requires.claimed t told) in
    let job = c.in-Ok.ensures.staged t told now.0 now.1 in
    not_free c.in_err-commit_and_release-in-Ok.field-0.0
    (commit_here c.args.hold.project t now.0 c.args.work c.in-Ok.prepared (g.T.Tree.meaning c.make_ready.new.tree) (g.T.Tree.meaning c.commit_and_release.new.tree) job.0 job.1
    c.in-Ok.ensures.ready (IsTrue (is_free c.in_err-commit_and_release-in-Ok.field-0.0)) (c.in_err-commit_and_release-in-Ok.ensures.told now.0 now.1)))

pub returns-in_err-commit_and_release-in-Ok-clause-released : goal.returns-in_err-commit_and_release-in-Ok-clause-released
returns-in_err-commit_and_release-in-Ok-clause-released g c =
    let p = err_from_is_err_and c.from_residual.result c.from_residual.ensures.1 in
    rw (p.1, p.2) (λ t told.
    let now = still_claimed c.args.hold.project (g.T.Tree.meaning c.args.tree.now) (g.T.Tree.meaning c.make_ready.new.tree) false t c.in-Ok.ensures.staging told (c.requires.claimed t told) in
    let job = c.in-Ok.ensures.staged t told now.0 now.1 in
    not_free c.in_err-commit_and_release-in-Ok.field-0.0
    (commit_here c.args.hold.project t now.0 c.args.work c.in-Ok.prepared (g.T.Tree.meaning c.make_ready.new.tree) (g.T.Tree.meaning c.commit_and_release.new.tree) job.0 job.1
    c.in-Ok.ensures.ready (IsTrue (is_free c.in_err-commit_and_release-in-Ok.field-0.0)) (c.in_err-commit_and_release-in-Ok.ensures.told now.0 now.1)))

pub returns-in_err-commit_and_release-in-Ok-clause-device : goal.returns-in_err-commit_and_release-in-Ok-clause-device
returns-in_err-commit_and_release-in-Ok-clause-device g c =
    let p = err_from_is_err_and c.from_residual.result c.from_residual.ensures.1 in
    rw (p.1, p.2) (λ failed. rose_after _ _ _ c.in-Ok.ensures.staging.steady.faults (c.in_err-commit_and_release-in-Ok.ensures.device failed))

-- ---- a commit that was made

pub returns-in_ok-commit_and_release-in-Ok-clause-told : goal.returns-in_ok-commit_and_release-in-Ok-clause-told
returns-in_ok-commit_and_release-in-Ok-clause-told g c = c.in-Ok.ensures.told

pub returns-in_ok-commit_and_release-in-Ok-clause-through : goal.returns-in_ok-commit_and_release-in-Ok-clause-through
returns-in_ok-commit_and_release-in-Ok-clause-through g c = λ t told start each.
    let now = still_claimed c.args.hold.project (g.T.Tree.meaning c.args.tree.now) (g.T.Tree.meaning c.make_ready.new.tree) false t c.in-Ok.ensures.staging told (c.requires.claimed t told) in
    let job = c.in-Ok.ensures.staged t told now.0 now.1 in
    committed_through c.args.hold.project t now.0 c.args.work c.in-Ok.prepared (g.T.Tree.meaning c.make_ready.new.tree) (g.T.Tree.meaning c.commit_and_release.new.tree) job.0 job.1
    c.in-Ok.ensures.ready start (g.T.Tree.meaning c.args.tree.now) c.args.left.now.left c.args.work.lines (c.in-Ok.ensures.told t told) each c.in-Ok.ensures.staging.steady
    (c.commit_and_release.ensures.through now.0 now.1)

pub returns-in_ok-commit_and_release-in-Ok-clause-settled : goal.returns-in_ok-commit_and_release-in-Ok-clause-settled
returns-in_ok-commit_and_release-in-Ok-clause-settled g c = λ t told start each.
    let now = still_claimed c.args.hold.project (g.T.Tree.meaning c.args.tree.now) (g.T.Tree.meaning c.make_ready.new.tree) false t c.in-Ok.ensures.staging told (c.requires.claimed t told) in
    let job = c.in-Ok.ensures.staged t told now.0 now.1 in
    committed_settles c.args.hold.project t now.0 c.args.work c.in-Ok.prepared (g.T.Tree.meaning c.make_ready.new.tree) (g.T.Tree.meaning c.commit_and_release.new.tree) job.0 job.1
    c.in-Ok.ensures.ready start (g.T.Tree.meaning c.args.tree.now) c.args.left.now.left c.args.work.lines (c.in-Ok.ensures.told t told) each c.in-Ok.ensures.staging.steady
    (c.in_ok-commit_and_release-in-Ok.ensures.committed now.0 now.1)

pub returns-in_ok-commit_and_release-in-Ok-clause-released : goal.returns-in_ok-commit_and_release-in-Ok-clause-released
returns-in_ok-commit_and_release-in-Ok-clause-released g c = λ t told other. c.in_ok-commit_and_release-in-Ok.ensures.released

-- ---- a refusal

pub returns-in-Err-clause-told : goal.returns-in-Err-clause-told
returns-in-Err-clause-told g c = λ t told.
    let now = still_claimed c.args.hold.project (g.T.Tree.meaning c.args.tree.now) (g.T.Tree.meaning c.make_ready.new.tree) (is_of_device c.in-Err.refusal) t c.in-Err.ensures.staging told (c.requires.claimed t told) in
    refused_on (committed_in c.args.hold.project t c.args.left.now.left c.args.work) c.in-Err.refusal c.release_refused.result (c.in-Err.ensures.told t told)
    (c.release_refused.ensures.told now.0 now.1 now.2)

pub returns-in-Err-clause-through : goal.returns-in-Err-clause-through
returns-in-Err-clause-through g c = λ t told start each.
    steady_in_flight c.args.hold.project start (g.T.Tree.meaning c.args.tree.now) (g.T.Tree.meaning c.release_refused.new.tree) each
    (steady_on c.args.hold.project (g.T.Tree.meaning c.args.tree.now) (g.T.Tree.meaning c.make_ready.new.tree) (g.T.Tree.meaning c.release_refused.new.tree)
    c.in-Err.ensures.staging.steady c.release_refused.ensures.steady)
    (files_after c.args.hold.project start t c.args.left.now.left (Ok c.args.work))

pub returns-in-Err-clause-refused : goal.returns-in-Err-clause-refused
returns-in-Err-clause-refused g c = λ t told start each other.
    steady_stays c.args.hold.project start (g.T.Tree.meaning c.args.tree.now) (g.T.Tree.meaning c.release_refused.new.tree) each
    (steady_on c.args.hold.project (g.T.Tree.meaning c.args.tree.now) (g.T.Tree.meaning c.make_ready.new.tree) (g.T.Tree.meaning c.release_refused.new.tree)
    c.in-Err.ensures.staging.steady c.release_refused.ensures.steady)

pub returns-in-Err-clause-released : goal.returns-in-Err-clause-released
returns-in-Err-clause-released g c = λ t told other.
    let now = still_claimed c.args.hold.project (g.T.Tree.meaning c.args.tree.now) (g.T.Tree.meaning c.make_ready.new.tree) (is_of_device c.in-Err.refusal) t c.in-Err.ensures.staging told (c.requires.claimed t told) in
    c.release_refused.ensures.released now.0 now.1 now.2 other

pub returns-in-Err-clause-device : goal.returns-in-Err-clause-device
returns-in-Err-clause-device g c = λ failed.
    rose_in_either c.in-Err.refusal (g.T.Tree.meaning c.args.tree.now).faults (g.T.Tree.meaning c.make_ready.new.tree).faults (g.T.Tree.meaning c.release_refused.new.tree).faults
    c.in-Err.ensures.staging.steady.faults c.release_refused.ensures.steady.faults c.in-Err.ensures.staging.cause (c.release_refused.ensures.device failed)

-- ---- how many files are written

pub returns-then-is_empty-clause-writes : goal.returns-then-is_empty-clause-writes
returns-then-is_empty-clause-writes g c = λ t told.
    none_written (g.T.Tree.meaning c.args.tree.now).writes (g.T.Tree.meaning c.release_done.new.tree).writes (files_written t c.args.work.job.parts) c.release_done.ensures.writes

pub returns-in_err-commit_and_release-in-Ok-clause-writes : goal.returns-in_err-commit_and_release-in-Ok-clause-writes
returns-in_err-commit_and_release-in-Ok-clause-writes g c = λ t told.
    journal_written t c.args.work.job.parts (g.T.Tree.meaning c.args.tree.now).writes (g.T.Tree.meaning c.make_ready.new.tree).writes (g.T.Tree.meaning c.commit_and_release.new.tree).writes
    (λ none. let empty = c.is_empty.ensures.1 none in absurd (false≢true (sym c.if-is_empty.false ∙ empty))) (c.make_ready.ensures.writes t told) c.commit_and_release.ensures.writes

pub returns-in_ok-commit_and_release-in-Ok-clause-writes : goal.returns-in_ok-commit_and_release-in-Ok-clause-writes
returns-in_ok-commit_and_release-in-Ok-clause-writes g c = λ t told.
    journal_written t c.args.work.job.parts (g.T.Tree.meaning c.args.tree.now).writes (g.T.Tree.meaning c.make_ready.new.tree).writes (g.T.Tree.meaning c.commit_and_release.new.tree).writes
    (λ none. let empty = c.is_empty.ensures.1 none in absurd (false≢true (sym c.if-is_empty.false ∙ empty))) (c.make_ready.ensures.writes t told) c.commit_and_release.ensures.writes

pub returns-in-Err-clause-writes : goal.returns-in-Err-clause-writes
returns-in-Err-clause-writes g c = λ t told.
    no_journal_written t c.args.work.job.parts (g.T.Tree.meaning c.args.tree.now).writes (g.T.Tree.meaning c.make_ready.new.tree).writes (g.T.Tree.meaning c.release_refused.new.tree).writes
    (λ none. let empty = c.is_empty.ensures.1 none in absurd (false≢true (sym c.if-is_empty.false ∙ empty))) (c.make_ready.ensures.writes t told) c.release_refused.ensures.writes

-- ---- the tree that is told

pub returns-then-is_empty-clause-new_stands : goal.returns-then-is_empty-clause-new_stands
returns-then-is_empty-clause-new_stands g c = whether_ok c.release_done.result (λ t told start steadily u now.
    subst (λ (files : Files). IsInstalled c.args.hold.project start files u)
    (sym (unchanged_files c.args.hold.project start t c.args.left.now.left c.args.work (c.is_empty.ensures.0 c.if-is_empty.true)))
    (installed_as c.args.hold.project start u (removed_steadily c.args.hold.project start t u steadily (c.release_done.ensures.stays t told u now))))

pub returns-then-is_empty-clause-old_stands : goal.returns-then-is_empty-clause-old_stands
returns-then-is_empty-clause-old_stands g c = λ t told start steadily.
    whether_refused (λ refusal. is_free refusal ≡ false → OfTold (g.T.Tree.meaning c.release_done.new.tree) (IsInstalled c.args.hold.project start (file_at start))) c.release_done.result
    (λ refusal other u now. installed_as c.args.hold.project start u (removed_steadily c.args.hold.project start t u steadily (c.release_done.ensures.stays t told u now)))

pub returns-in_err-commit_and_release-in-Ok-clause-old_stands : goal.returns-in_err-commit_and_release-in-Ok-clause-old_stands
returns-in_err-commit_and_release-in-Ok-clause-old_stands g c =
    let p = err_from_is_err_and c.from_residual.result c.from_residual.ensures.1 in
    rw (p.1, p.2) (λ t told start steadily.
    let now = still_claimed c.args.hold.project (g.T.Tree.meaning c.args.tree.now) (g.T.Tree.meaning c.make_ready.new.tree) false t c.in-Ok.ensures.staging told (c.requires.claimed t told) in
    let job = c.in-Ok.ensures.staged t told now.0 now.1 in
    not_free c.in_err-commit_and_release-in-Ok.field-0.0
    (commit_here c.args.hold.project t now.0 c.args.work c.in-Ok.prepared (g.T.Tree.meaning c.make_ready.new.tree) (g.T.Tree.meaning c.commit_and_release.new.tree) job.0 job.1
    c.in-Ok.ensures.ready (IsTrue (is_free c.in_err-commit_and_release-in-Ok.field-0.0)) (c.in_err-commit_and_release-in-Ok.ensures.told now.0 now.1)))

pub returns-in_ok-commit_and_release-in-Ok-clause-new_stands : goal.returns-in_ok-commit_and_release-in-Ok-clause-new_stands
returns-in_ok-commit_and_release-in-Ok-clause-new_stands g c = λ t told start steadily u now.
    let kept = c.in-Ok.ensures.staging.kept t told in
    let job = c.in-Ok.ensures.staged t told kept.0 kept.1 in
    let staged = g.T.Tree.meaning c.make_ready.new.tree in
    let committed = g.T.Tree.meaning c.commit_and_release.new.tree in
    committed_settles c.args.hold.project t kept.0 c.args.work c.in-Ok.prepared staged committed job.0 job.1 c.in-Ok.ensures.ready start staged c.args.left.now.left c.args.work.lines
    (c.in-Ok.ensures.told t told)
    (alone_steadily c.args.hold.project start kept.0 staged job.1 (kept_steadily c.args.hold.project t kept.0 kept.2 start steadily job.0.no_journal))
    (steady_start c.args.hold.project staged) (c.in_ok-commit_and_release-in-Ok.ensures.committed kept.0 kept.1) u
    (told_image committed u (g.met.T.Tree.tells_its_disk c.commit_and_release.new.tree u now))

pub returns-in-Err-clause-old_stands : goal.returns-in-Err-clause-old_stands
returns-in-Err-clause-old_stands g c = λ t told start steadily other u now.
    let kept = c.in-Err.ensures.staging.kept t told in
    installed_as c.args.hold.project start u
    (refused_steadily c.args.hold.project t kept.0 kept.2 start u steadily (c.release_refused.ensures.stays kept.0 kept.1 u now) (g.met.T.Tree.tells_trees c.release_refused.new.tree u now)
    (c.release_refused.ensures.released kept.0 kept.1 (kept.2.claim (c.requires.claimed t told).folder) other u now))
