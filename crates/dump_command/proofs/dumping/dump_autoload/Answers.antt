use Rattle.std.proofs.Common.{ℕ, List, sym, subst, ◌∙◌}
use Rattle.tree_dev.specs.declared.limits.TheConstants.{ENTRIES}
use Rattle.stage_job.specs.Staged.{IsClaimed}
use Rattle.dump_command.specs.Dumping.{IsDumped}
use Rattle.install_commands.specs.Working.{HasParentsIf, IsWorkIf}
use Rattle.run_answers.specs.Steps.{TellsOne}
use Rattle.install_commands.proofs.Commanding.{commanded, not_claimed_exit, rose_all}
use Rattle.dump_command.proofs.DumpedWork.{has_parents_if, is_work_if}
use Rattle.install_commands.proofs.WriteCounts.{none_written}
use Rattle.dump_command.proofs.FewParts.{few_after}
use Rattle.dump_command.proofs.dumping.dump_autoload.Goals as goal

pub end_work-requires-clause-claimed : goal.end_work-requires-clause-claimed
end_work-requires-clause-claimed g c = λ u told.
    subst (λ (project : List (List ℕ)). IsClaimed project u) (sym c.in_ok-hold.ensures.held) (c.in_ok-hold.ensures.ready u (sym c.dumped_work-work.ensures.only_read.told ∙ told))

pub end_work-requires-clause-work : goal.end_work-requires-clause-work
end_work-requires-clause-work g c =
    subst (λ (project : List (List ℕ)). IsWorkIf project c.dumped_work-work.result) (sym c.in_ok-hold.ensures.held) (is_work_if c.args.project.now c.dumped_work-work.result c.dumped_work-work.ensures.work)

pub end_work-requires-clause-parents : goal.end_work-requires-clause-parents
end_work-requires-clause-parents g c = λ u told.
    subst (λ (project : List (List ℕ)). HasParentsIf project u c.dumped_work-work.result) (sym c.in_ok-hold.ensures.held)
    (has_parents_if c.args.project.now u c.dumped_work-work.result (c.dumped_work-work.ensures.parents u (sym c.dumped_work-work.ensures.only_read.told ∙ told)))

pub returns-clause-commanded : goal.returns-clause-commanded
returns-clause-commanded g c = λ t told.
    let meaning = g.T.Tree.meaning in
    commanded (IsDumped c.args.project.now c.args.ways.now ENTRIES) c.args.project.now t (meaning c.args.tree.now) (meaning c.claim_project.new.tree) (meaning c.dumped_work-work.new.tree)
    (meaning c.end_work.new.tree) c.dumped_work-work.result c.dumped_work-work.new.left.left c.end_work.result told (c.in_ok-hold.ensures.told t told) c.claim_project.ensures.tells
    (c.in_ok-hold.ensures.claimed t told) c.claim_project.ensures.steady c.claim_project.ensures.writes (g.met.T.Tree.tells_trees c.claim_project.new.tree) c.in_ok-hold.ensures.ready _ c.dumped_work-work.ensures.only_read c.in_ok-hold.hold.project c.in_ok-hold.ensures.held
    (λ u told_u.
    subst (λ (left : ℕ). TellsOne (λ work. work) (IsDumped c.args.project.now c.args.ways.now left u c.dumped_work-work.new.left.left) c.dumped_work-work.result) c.all_entries-left.ensures
    (c.dumped_work-work.ensures.told u told_u)) c.end_work.ensures.told c.end_work.ensures.through c.end_work.ensures.settled c.end_work.ensures.refused c.end_work.ensures.new_stands c.end_work.ensures.old_stands
    c.end_work.ensures.released c.end_work.ensures.writes

pub returns-in_err-hold-clause-commanded : goal.returns-in_err-hold-clause-commanded
returns-in_err-hold-clause-commanded g c = λ t told.
    not_claimed_exit (IsDumped c.args.project.now c.args.ways.now ENTRIES) c.args.project.now t (g.T.Tree.meaning c.args.tree.now) (g.T.Tree.meaning c.claim_project.new.tree) c.in_err-hold.field-0.0
    (c.in_err-hold.ensures.told t told) c.from_residual.result c.from_residual.ensures.1 c.claim_project.ensures.steady c.claim_project.ensures.writes c.in_err-hold.ensures.refused

pub returns-clause-device : goal.returns-clause-device
returns-clause-device g c = λ failed.
    let meaning = g.T.Tree.meaning in
    rose_all (meaning c.args.tree.now) (meaning c.claim_project.new.tree) (meaning c.dumped_work-work.new.tree) (meaning c.end_work.new.tree) c.dumped_work-work.result
    c.claim_project.ensures.steady.faults c.dumped_work-work.ensures.only_read.faults c.dumped_work-work.ensures.only_read.cause c.end_work.ensures.silent (c.end_work.ensures.device failed)

-- ---- how many files are written, and for what nothing is refused

pub returns-in_err-hold-clause-few_writes : goal.returns-in_err-hold-clause-few_writes
returns-in_err-hold-clause-few_writes g c = λ t told.
    none_written (g.T.Tree.meaning c.args.tree.now).writes (g.T.Tree.meaning c.claim_project.new.tree).writes 8 c.claim_project.ensures.writes

pub returns-clause-few_writes : goal.returns-clause-few_writes
returns-clause-few_writes g c = λ t told.
    let meaning = g.T.Tree.meaning in
    few_after (meaning c.args.tree.now) (meaning c.claim_project.new.tree) (meaning c.dumped_work-work.new.tree) (meaning c.end_work.new.tree) t c.dumped_work-work.result told
    c.claim_project.ensures.tells c.claim_project.ensures.writes _ c.dumped_work-work.ensures.only_read c.dumped_work-work.ensures.few c.end_work.ensures.writes

pub returns-clause-causes : goal.returns-clause-causes
returns-clause-causes g c = c.end_work.ensures.causes c.dumped_work-work.ensures.causes
