use Rattle.std.proofs.Common.{◌≡◌, ℕ, List, Result, sym, subst, inr}
use Rattle.std.specs.Prelude.{IsTrue, IfErr, ◌⊎◌}
use Rattle.std.proofs.lemmas.Result.{on_ok_weaker}
use Rattle.tree_dev.specs.Device.{OfTold, Rose}
use Rattle.tree_dev.specs.Projects.{file_at}
use Rattle.tree_dev.specs.Steady.{EachImage, Through}
use Rattle.install_world.specs.InFlight.{IsInFlight}
use Rattle.run_answers.specs.Faults.{is_device_fault, is_of_tree}
use Rattle.run_answers.specs.Steps.{Tells}
use Rattle.run_answers.specs.declared.refusal.Refusal.{Refusal}
use Rattle.run_answers.specs.declared.refusal.Refusal.TheVariants.{DeviceFault}
use Rattle.install_commands.specs.Working.{IsInstalled, files_after, worked_in}
use Rattle.install_commands.specs.declared.work.Work.{Work}
use Rattle.install_commands.proofs.Ends.{not_made, refused_on, worked}
use Rattle.install_commands.proofs.Flights.{steady_in_flight, steady_stays}
use Rattle.install_commands.proofs.ToldEnds.{installed_as, removed_steadily}
use Rattle.std.specs.Prelude.{◌≤◌}
use Rattle.stage_job.specs.Written.{after_more}
use Rattle.install_commands.specs.Working.{writes_of}
use Rattle.install_commands.proofs.WriteCounts.{none_written}
use Rattle.install_commands.proofs.claimed.end_work.Goals as goal

-- ---- work that was made

pub returns-in-Ok-clause-told : goal.returns-in-Ok-clause-told
returns-in-Ok-clause-told g c = λ t told.
    subst (λ (wanted : Result (List ℕ) Refusal). Tells (λ lines. lines) wanted c.end_made.result)
    (sym (worked c.args.hold.project t c.args.left.now.left c.args.made c.in-Ok.work c.in-Ok.is)) (c.end_made.ensures.told t told)

pub returns-in-Ok-clause-through : goal.returns-in-Ok-clause-through
returns-in-Ok-clause-through g c = λ t told start each.
    subst (λ (made : Result Work Refusal). Through (g.T.Tree.meaning c.args.tree.now) (g.T.Tree.meaning c.end_made.new.tree)
    (IsInFlight c.args.hold.project start (file_at start) (files_after c.args.hold.project start t c.args.left.now.left made)))
    (sym c.in-Ok.is) (c.end_made.ensures.through t told start each)

pub returns-in-Ok-clause-settled : goal.returns-in-Ok-clause-settled
returns-in-Ok-clause-settled g c = on_ok_weaker c.end_made.result
    (λ settles t told start each.
    subst (λ (made : Result Work Refusal). EachImage (g.T.Tree.meaning c.end_made.new.tree)
    (IsInstalled c.args.hold.project start (files_after c.args.hold.project start t c.args.left.now.left made)))
    (sym c.in-Ok.is) (settles t told start each))
    c.end_made.ensures.settled

pub returns-in-Ok-clause-silent : goal.returns-in-Ok-clause-silent
returns-in-Ok-clause-silent g c = λ fault. let made = c.in-Ok.is in absurd cc

pub returns-in-Ok-clause-device : goal.returns-in-Ok-clause-device
returns-in-Ok-clause-device g c = λ failed. inr (c.end_made.ensures.device failed)

-- ---- work that was refused

pub returns-in-Err-clause-told : goal.returns-in-Err-clause-told
returns-in-Err-clause-told g c = λ t told.
    refused_on (worked_in c.args.hold.project t c.args.left.now.left c.args.made) c.in-Err.refused c.release_refused.result
    (inr (not_made c.args.hold.project t c.args.left.now.left c.args.made c.in-Err.refused c.in-Err.is))
    (c.release_refused.ensures.told t told (c.requires.claimed t told).folder)

pub returns-in-Err-clause-through : goal.returns-in-Err-clause-through
returns-in-Err-clause-through g c = λ t told start each.
    steady_in_flight c.args.hold.project start (g.T.Tree.meaning c.args.tree.now) (g.T.Tree.meaning c.release_refused.new.tree) each c.release_refused.ensures.steady
    (files_after c.args.hold.project start t c.args.left.now.left c.args.made)

pub returns-in-Err-clause-refused : goal.returns-in-Err-clause-refused
returns-in-Err-clause-refused g c = λ t told start each other.
    steady_stays c.args.hold.project start (g.T.Tree.meaning c.args.tree.now) (g.T.Tree.meaning c.release_refused.new.tree) each c.release_refused.ensures.steady

pub returns-in-Err-clause-released : goal.returns-in-Err-clause-released
returns-in-Err-clause-released g c = λ t told other. c.release_refused.ensures.released t told (c.requires.claimed t told).folder other

pub returns-in-Err-clause-silent : goal.returns-in-Err-clause-silent
returns-in-Err-clause-silent g c = λ fault.
    let is = c.in-Err.is in
    let same : c.in-Err.refused ≡ DeviceFault = cc in
    c.release_refused.ensures.silent same

pub returns-in-Err-clause-device : goal.returns-in-Err-clause-device
returns-in-Err-clause-device g c = λ failed.
    subst (λ (made : Result Work Refusal). IsTrue (is_device_fault made) ⊎ Rose (g.T.Tree.meaning c.args.tree.now).faults (g.T.Tree.meaning c.release_refused.new.tree).faults)
    (sym c.in-Err.is) (c.release_refused.ensures.device failed)

-- ---- how many files are written

pub returns-in-Ok-clause-writes : goal.returns-in-Ok-clause-writes
returns-in-Ok-clause-writes g c = λ t told.
    subst (λ (made : Result Work Refusal). (g.T.Tree.meaning c.end_made.new.tree).writes ≤ after_more (g.T.Tree.meaning c.args.tree.now).writes (writes_of t made))
    (sym c.in-Ok.is) (c.end_made.ensures.writes t told)

pub returns-in-Err-clause-writes : goal.returns-in-Err-clause-writes
returns-in-Err-clause-writes g c = λ t told.
    none_written (g.T.Tree.meaning c.args.tree.now).writes (g.T.Tree.meaning c.release_refused.new.tree).writes (writes_of t c.args.made) c.release_refused.ensures.writes

-- ---- what a refusal is not told for

pub returns-in-Ok-clause-causes : goal.returns-in-Ok-clause-causes
returns-in-Ok-clause-causes g c = λ causes. c.end_made.ensures.causes

pub returns-in-Err-clause-causes : goal.returns-in-Err-clause-causes
returns-in-Err-clause-causes g c = λ causes.
    c.release_refused.ensures.causes (subst (λ (made : Result Work Refusal). IfErr made (λ refusal. IsTrue (is_of_tree refusal))) c.in-Err.is causes)

-- ---- the tree that is told

pub returns-in-Ok-clause-new_stands : goal.returns-in-Ok-clause-new_stands
returns-in-Ok-clause-new_stands g c = on_ok_weaker c.end_made.result
    (λ stands t told start steadily.
    subst (λ (made : Result Work Refusal). OfTold (g.T.Tree.meaning c.end_made.new.tree) (IsInstalled c.args.hold.project start (files_after c.args.hold.project start t c.args.left.now.left made)))
    (sym c.in-Ok.is) (stands t told start steadily))
    c.end_made.ensures.new_stands

pub returns-in-Err-clause-old_stands : goal.returns-in-Err-clause-old_stands
returns-in-Err-clause-old_stands g c = λ t told start steadily other u now.
    installed_as c.args.hold.project start u (removed_steadily c.args.hold.project start t u steadily (c.release_refused.ensures.stays t told u now))
