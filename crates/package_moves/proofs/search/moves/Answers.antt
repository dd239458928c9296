use Rattle.std.proofs.Common.{sym, ap, ◌∙◌}
use Rattle.stage_job.specs.Checked.{job_checked}
use Rattle.stage_job.proofs.Exits.{fault_answer, refuses_on}
use Rattle.tree_dev.specs.declared.limits.Entries.{Entries}
use Rattle.package_moves.specs.Moves.{moves_checked}
use Rattle.package_moves.proofs.JobSteps.{goes, job_for, never, source_refused, stops, vendor_segment}
use Rattle.package_moves.proofs.JobParts.{job_are_parts}
use Rattle.package_moves.proofs.Parents.{job_parents}
use Rattle.package_moves.proofs.search.moves.Goals as goal

pub child-requires : goal.child-requires
child-requires g c = vendor_segment

pub returns-in_err-searched-clause-exact : goal.returns-in_err-searched-clause-exact
returns-in_err-searched-clause-exact g c = λ t told.
    let start = ap (λ (e : Entries). job_checked c.args.project.now t c.args.wanted.now e.left) c.of-counts.ensures.left in
    fault_answer _ _ c.from_residual-in_err-searched.result c.in_err-searched.field-0.0 c.from_residual-in_err-searched.ensures.1
    (refuses_on c.in_err-searched.field-0.0 (job_checked c.args.project.now t c.args.wanted.now c.of-counts.result.left.left) (moves_checked c.args.project.now t c.args.wanted.now c.args.left.now.left)
    (λ is. source_refused c.args.project.now t c.args.wanted.now c.args.left.now.left _ (sym start ∙ is)) (c.in_err-searched.ensures.checked t told))

pub returns-in_err-searched-clause-never_vanished : goal.returns-in_err-searched-clause-never_vanished
returns-in_err-searched-clause-never_vanished g c = λ t told.
    let start = ap (λ (e : Entries). job_checked c.args.project.now t c.args.wanted.now e.left) c.of-counts.ensures.left in
    never c.args.project.now t c.args.wanted.now c.args.left.now.left 0 c.from_residual-in_err-searched.result
    (fault_answer _ _ c.from_residual-in_err-searched.result c.in_err-searched.field-0.0 c.from_residual-in_err-searched.ensures.1
    (refuses_on c.in_err-searched.field-0.0 (job_checked c.args.project.now t c.args.wanted.now c.of-counts.result.left.left) (moves_checked c.args.project.now t c.args.wanted.now c.args.left.now.left)
    (λ is. source_refused c.args.project.now t c.args.wanted.now c.args.left.now.left _ (sym start ∙ is)) (c.in_err-searched.ensures.checked t told)))

pub returns-clause-exact : goal.returns-clause-exact
returns-clause-exact g c = λ t told.
    let start = ap (λ (e : Entries). job_checked c.args.project.now t c.args.wanted.now e.left) c.of-counts.ensures.left in
    stops c.args.project.now t c.args.wanted.now c.args.left.now.left c.of-counts.result c.look.new.counts c.of-counts.ensures.targets c.of-counts.ensures.passed
    (sym start ∙ c.in_ok-searched.ensures.checked t told) (c.in_ok-searched.ensures.counted t told) c.in-None.ensures

pub returns-in-Some-clause-exact : goal.returns-in-Some-clause-exact
returns-in-Some-clause-exact g c = λ t told.
    let start = ap (λ (e : Entries). job_checked c.args.project.now t c.args.wanted.now e.left) c.of-counts.ensures.left in
    (goes c.args.project.now t c.args.wanted.now c.args.left.now.left c.of-counts.result c.look.new.counts c.of-counts.ensures.targets c.of-counts.ensures.passed
    (sym start ∙ c.in_ok-searched.ensures.checked t told) (c.in_ok-searched.ensures.counted t told) c.in-Some.rest c.in-Some.ensures).1

pub returns-in-Some-clause-job : goal.returns-in-Some-clause-job
returns-in-Some-clause-job g c = λ t told.
    let start = ap (λ (e : Entries). job_checked c.args.project.now t c.args.wanted.now e.left) c.of-counts.ensures.left in
    let whole = goes c.args.project.now t c.args.wanted.now c.args.left.now.left c.of-counts.result c.look.new.counts c.of-counts.ensures.targets c.of-counts.ensures.passed
    (sym start ∙ c.in_ok-searched.ensures.checked t told) (c.in_ok-searched.ensures.counted t told) c.in-Some.rest c.in-Some.ensures in
    job_for c.args.project.now t c.args.wanted.now c.in_ok-searched.searched.standing.items c.in_ok-searched.searched.found _
    (c.in_ok-searched.ensures.standing t told whole.0) (c.in_ok-searched.ensures.found t told whole.0) c.in_ok-job-in-Some.ensures

pub returns-in-Some-clause-parents : goal.returns-in-Some-clause-parents
returns-in-Some-clause-parents g c = λ t told.
    let start = ap (λ (e : Entries). job_checked c.args.project.now t c.args.wanted.now e.left) c.of-counts.ensures.left in
    let whole = goes c.args.project.now t c.args.wanted.now c.args.left.now.left c.of-counts.result c.look.new.counts c.of-counts.ensures.targets c.of-counts.ensures.passed
    (sym start ∙ c.in_ok-searched.ensures.checked t told) (c.in_ok-searched.ensures.counted t told) c.in-Some.rest c.in-Some.ensures in
    job_parents c.args.project.now t c.args.wanted.now _ (g.met.T.Tree.tells_trees c.args.tree.now t told) c.requires.wanted
    (job_for c.args.project.now t c.args.wanted.now c.in_ok-searched.searched.standing.items c.in_ok-searched.searched.found _
    (c.in_ok-searched.ensures.standing t told whole.0) (c.in_ok-searched.ensures.found t told whole.0) c.in_ok-job-in-Some.ensures)

pub returns-in-Some-clause-parts : goal.returns-in-Some-clause-parts
returns-in-Some-clause-parts g c = λ all.
    let known = c.in_ok-searched.ensures.known in
    job_are_parts c.args.project.now c.args.wanted.now _ c.in_ok-searched.searched.standing.items known.0 c.in_ok-searched.searched.found c.requires.wanted all known.1 c.in_ok-job-in-Some.ensures
