use Rattle.std.proofs.Common.{ℕ, List, sym, subst, ◌∙◌}
use Rattle.tree_dev.specs.declared.limits.TheConstants.{ENTRIES}
use Rattle.run_answers.specs.Steps.{TellsOne}
use Rattle.stage_job.specs.Staged.{IsClaimed}
use Rattle.install_commands.specs.Working.{HasParentsIf, IsWorkIf}
use Rattle.install_commands.proofs.Commanding.{commanded, not_claimed_exit, rose_all}
use Rattle.install_packages.specs.Installing.{IsUpdate}
use Rattle.install_packages.proofs.installing.update.Goals as goal

pub end_work-requires-clause-claimed : goal.end_work-requires-clause-claimed
end_work-requires-clause-claimed g c = λ u told.
    subst (λ (project : List (List ℕ)). IsClaimed project u) (sym c.in_ok-hold.ensures.held) (c.in_ok-hold.ensures.ready u (sym c.update_work-made.ensures.only_read.told ∙ told))

pub end_work-requires-clause-work : goal.end_work-requires-clause-work
end_work-requires-clause-work g c = subst (λ (project : List (List ℕ)). IsWorkIf project c.update_work-made.result) (sym c.in_ok-hold.ensures.held) c.update_work-made.ensures.work

pub end_work-requires-clause-parents : goal.end_work-requires-clause-parents
end_work-requires-clause-parents g c = λ u told.
    subst (λ (project : List (List ℕ)). HasParentsIf project u c.update_work-made.result) (sym c.in_ok-hold.ensures.held)
    (c.update_work-made.ensures.parents u (sym c.update_work-made.ensures.only_read.told ∙ told))

pub returns-clause-commanded : goal.returns-clause-commanded
returns-clause-commanded g c = λ t told.
    let meaning = g.T.Tree.meaning in
    commanded (IsUpdate c.args.project.now c.args.ways.now ENTRIES) c.args.project.now t (meaning c.args.tree.now) (meaning c.claim_project.new.tree) (meaning c.update_work-made.new.tree)
    (meaning c.end_work.new.tree) c.update_work-made.result c.update_work-made.new.left.left c.end_work.result told (c.in_ok-hold.ensures.told t told) c.claim_project.ensures.tells
    (c.in_ok-hold.ensures.claimed t told) c.claim_project.ensures.steady c.claim_project.ensures.writes (g.met.T.Tree.tells_trees c.claim_project.new.tree) c.in_ok-hold.ensures.ready _ c.update_work-made.ensures.only_read c.in_ok-hold.hold.project c.in_ok-hold.ensures.held
    (λ u told_u.
    subst (λ (left : ℕ). TellsOne (λ work. work) (IsUpdate c.args.project.now c.args.ways.now left u c.update_work-made.new.left.left) c.update_work-made.result) c.all_entries-left.ensures
    (c.update_work-made.ensures.told u told_u)) c.end_work.ensures.told c.end_work.ensures.through c.end_work.ensures.settled c.end_work.ensures.refused c.end_work.ensures.new_stands c.end_work.ensures.old_stands
    c.end_work.ensures.released c.end_work.ensures.writes

pub returns-in_err-hold-clause-commanded : goal.returns-in_err-hold-clause-commanded
returns-in_err-hold-clause-commanded g c = λ t told.
    not_claimed_exit (IsUpdate c.args.project.now c.args.ways.now ENTRIES) c.args.project.now t (g.T.Tree.meaning c.args.tree.now) (g.T.Tree.meaning c.claim_project.new.tree) c.in_err-hold.field-0.0
    (c.in_err-hold.ensures.told t told) c.from_residual.result c.from_residual.ensures.1 c.claim_project.ensures.steady c.claim_project.ensures.writes c.in_err-hold.ensures.refused

pub returns-clause-device : goal.returns-clause-device
returns-clause-device g c = λ failed.
    let meaning = g.T.Tree.meaning in
    rose_all (meaning c.args.tree.now) (meaning c.claim_project.new.tree) (meaning c.update_work-made.new.tree) (meaning c.end_work.new.tree) c.update_work-made.result
    c.claim_project.ensures.steady.faults c.update_work-made.ensures.only_read.faults c.update_work-made.ensures.only_read.cause c.end_work.ensures.silent (c.end_work.ensures.device failed)

pub returns-clause-causes : goal.returns-clause-causes
returns-clause-causes g c = c.end_work.ensures.causes c.update_work-made.ensures.causes
