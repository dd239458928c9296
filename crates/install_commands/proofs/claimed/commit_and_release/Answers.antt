use Rattle.std.specs.Prelude.{IsTrue}
use Rattle.std.proofs.Common.{◌≡◌, ◌∙◌, List, ℕ, Some, sym, subst}
use Rattle.std.specs.FinMap as map
use Rattle.tree_dev.specs.Projects.{work_path}
use Rattle.tree_dev.specs.Steady.{Steady}
use Rattle.tree_dev.specs.declared.entry.Entry.TheVariants.{Folder}
use Rattle.tree_dev.proofs.Stretches.{through_on}
use Rattle.install_world.specs.InFlight.{IsInFlight}
use Rattle.install_world.proofs.PartDone.{told_still}
use Rattle.run_answers.specs.Faults.{is_free, is_of_device}
use Rattle.run_answers.specs.declared.refusal.Refusal.{Refusal}
use Rattle.install_commands.proofs.Faults.{claim_device, commit_device, free_or_lost, free_or_vanished, rose_after}
use Rattle.install_commands.proofs.Flights.{new_in_flight, new_stays}
use Rattle.install_commands.proofs.claimed.commit_and_release.Goals as goal

pub returns-in-Err-clause-told : goal.returns-in-Err-clause-told
returns-in-Err-clause-told g c = λ t told way puts same ready each.
    subst (λ (r : Refusal). IsTrue (is_free r)) (sym c.refusal_of_commit.ensures)
    (free_or_vanished c.in-Err.fault (c.in-Err.ensures.never_vanished t told way puts ready each))

pub returns-in-Err-clause-device : goal.returns-in-Err-clause-device
returns-in-Err-clause-device g c = λ failed.
    c.in-Err.ensures.calls.cause (commit_device c.in-Err.fault (subst (λ (r : Refusal). IsTrue (is_of_device r)) c.refusal_of_commit.ensures failed))

pub returns-in-Err-release-clause-told : goal.returns-in-Err-release-clause-told
returns-in-Err-release-clause-told g c = λ t told way puts same ready each.
    let now = told_still (g.T.Tree.meaning c.args.tree.now) (g.T.Tree.meaning c.commit.new.tree) t c.commit.ensures.calls.tells told in
    let stands = subst (λ (project : List (List ℕ)). map.get now.0 (work_path project) ≡ Some Folder) same (c.in_default.ensures.work t told way puts ready now.0 now.1) in
    subst (λ (r : Refusal). IsTrue (is_free r)) (sym c.refusal_of_claim.ensures)
    (free_or_lost c.in-Err-release.fault (c.in-Err-release.ensures.never_vanished now.0 now.1 stands))

pub returns-in-Err-release-clause-through : goal.returns-in-Err-release-clause-through
returns-in-Err-release-clause-through g c = λ t told way puts same ready each.
    let committed = g.T.Tree.meaning c.commit.new.tree in
    let released = g.T.Tree.meaning c.release.new.tree in
    through_on (IsInFlight way.project way.surroundings way.old way.new) (g.T.Tree.meaning c.args.tree.now) committed released
    (c.commit.ensures.through t told way puts ready each)
    (new_in_flight way committed released (c.in_default.ensures.committed t told way puts ready)
    (subst (λ (project : List (List ℕ)). Steady project committed released) (sym same) c.release.ensures.steady))

pub returns-in-Err-release-clause-device : goal.returns-in-Err-release-clause-device
returns-in-Err-release-clause-device g c = λ failed.
    rose_after _ _ _ c.commit.ensures.calls.faults
    (c.in-Err-release.ensures.writes_none.cause (claim_device c.in-Err-release.fault (subst (λ (r : Refusal). IsTrue (is_of_device r)) c.refusal_of_claim.ensures failed)))

pub returns-in-Ok-clause-through : goal.returns-in-Ok-clause-through
returns-in-Ok-clause-through g c = λ t told way puts same ready each.
    let committed = g.T.Tree.meaning c.commit.new.tree in
    let released = g.T.Tree.meaning c.release.new.tree in
    through_on (IsInFlight way.project way.surroundings way.old way.new) (g.T.Tree.meaning c.args.tree.now) committed released
    (c.commit.ensures.through t told way puts ready each)
    (new_in_flight way committed released (c.in_default.ensures.committed t told way puts ready)
    (subst (λ (project : List (List ℕ)). Steady project committed released) (sym same) c.release.ensures.steady))

pub returns-in-Ok-clause-committed : goal.returns-in-Ok-clause-committed
returns-in-Ok-clause-committed g c = λ t told way puts same ready each.
    let committed = g.T.Tree.meaning c.commit.new.tree in
    let released = g.T.Tree.meaning c.release.new.tree in
    new_stays way committed released (c.in_default.ensures.committed t told way puts ready)
    (subst (λ (project : List (List ℕ)). Steady project committed released) (sym same) c.release.ensures.steady)

pub returns-in-Err-release-clause-writes : goal.returns-in-Err-release-clause-writes
returns-in-Err-release-clause-writes g c = c.release.ensures.writes_none.writes ∙ c.commit.ensures.writes

pub returns-in-Ok-clause-writes : goal.returns-in-Ok-clause-writes
returns-in-Ok-clause-writes g c = c.release.ensures.writes_none.writes ∙ c.commit.ensures.writes
