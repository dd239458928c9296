use Rattle.std.proofs.Common.{ap, ◌∙◌, Err, inr}
use Rattle.std.specs.Prelude.{is_some}
use Rattle.tree_dev.specs.Projects.{work_path}
use Rattle.tree_dev.specs.declared.change.Change.TheVariants.{FolderMade}
use Rattle.tree_dev.proofs.SteadyRules.{steady_then_read}
use Rattle.stage_job.proofs.Made.{after_change}
use Rattle.run_answers.specs.Faults.{is_of_device}
use Rattle.install_commands.proofs.Claims.{claim_passes, claim_unfinished, lost_told, no_project, ready_for_staging}
use Rattle.install_commands.proofs.Faults.{rose_after}
use Rattle.install_commands.proofs.claimed.claim_project.Goals as goal

-- ---- a claim

pub returns-in-Ok-clause-told : goal.returns-in-Ok-clause-told
returns-in-Ok-clause-told g c = λ t told. claim_passes t c.args.project.now (c.in-Ok.ensures.claimed t told).0 (c.in-Ok.ensures.above t told)

pub returns-in-Ok-clause-claimed : goal.returns-in-Ok-clause-claimed
returns-in-Ok-clause-claimed g c = λ t told u now.
    after_change (g.T.Tree.meaning c.args.tree.now) (g.T.Tree.meaning c.claim.new.tree) (FolderMade (work_path c.args.project.now)) t u (c.in-Ok.ensures.claimed t told).1 told now

pub returns-in-Ok-clause-ready : goal.returns-in-Ok-clause-ready
returns-in-Ok-clause-ready g c =
    ready_for_staging c.args.project.now (g.T.Tree.meaning c.args.tree.now) (g.T.Tree.meaning c.claim.new.tree) c.claim.ensures.tells c.in-Ok.ensures.claimed (g.met.T.Tree.tells_trees c.args.tree.now)

-- ---- a project that is no folder

pub returns-in-Err-Vanished-clause-told : goal.returns-in-Err-Vanished-clause-told
returns-in-Err-Vanished-clause-told g c = λ t told.
    let lost = c.in-Err-Vanished.ensures.vanished _ (ap Err c.in-Err-Vanished.field-0-is) in
    lost_told t c.args.project.now c.refusal_of_lost.result (g.met.T.Tree.tells_trees c.args.tree.now t told) (lost.1.1 t told)
    (c.refusal_of_lost.ensures.told t (lost.1.0.told ∙ told) (no_project t c.args.project.now (lost.1.1 t told)))

pub returns-in-Err-Vanished-clause-refused : goal.returns-in-Err-Vanished-clause-refused
returns-in-Err-Vanished-clause-refused g c = λ other.
    let lost = c.in-Err-Vanished.ensures.vanished _ (ap Err c.in-Err-Vanished.field-0-is) in
    c.refusal_of_lost.ensures.only_read.told ∙ lost.1.0.told

pub returns-in-Err-Vanished-clause-tells : goal.returns-in-Err-Vanished-clause-tells
returns-in-Err-Vanished-clause-tells g c = ap is_some c.refusal_of_lost.ensures.only_read.told ∙ c.claim.ensures.tells

pub returns-in-Err-Vanished-clause-steady : goal.returns-in-Err-Vanished-clause-steady
returns-in-Err-Vanished-clause-steady g c =
    steady_then_read c.args.project.now (g.T.Tree.meaning c.args.tree.now) (g.T.Tree.meaning c.claim.new.tree) (g.T.Tree.meaning c.refusal_of_lost.new.tree)
    (is_of_device c.refusal_of_lost.result) c.refusal_of_lost.ensures.only_read c.claim.ensures.steady

pub returns-in-Err-Vanished-clause-device : goal.returns-in-Err-Vanished-clause-device
returns-in-Err-Vanished-clause-device g c = λ failed.
    rose_after (g.T.Tree.meaning c.args.tree.now).faults (g.T.Tree.meaning c.claim.new.tree).faults (g.T.Tree.meaning c.refusal_of_lost.new.tree).faults
    c.claim.ensures.steady.faults (c.refusal_of_lost.ensures.only_read.cause failed)

-- ---- a project that is claimed

pub returns-in-Err-Unfinished-clause-told : goal.returns-in-Err-Unfinished-clause-told
returns-in-Err-Unfinished-clause-told g c = λ t told.
    inr (claim_unfinished t c.args.project.now ((c.in-Err-Unfinished.ensures.unfinished (ap Err c.in-Err-Unfinished.field-0-is)).1 t told))

pub returns-in-Err-Unfinished-clause-refused : goal.returns-in-Err-Unfinished-clause-refused
returns-in-Err-Unfinished-clause-refused g c = λ other. (c.in-Err-Unfinished.ensures.unfinished (ap Err c.in-Err-Unfinished.field-0-is)).0.told

pub returns-in-Err-Vanished-clause-writes : goal.returns-in-Err-Vanished-clause-writes
returns-in-Err-Vanished-clause-writes g c = c.refusal_of_lost.ensures.only_read.writes ∙ c.claim.ensures.writes
