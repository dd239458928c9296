use Rattle.std.proofs.Common.{◌∙◌}
use Rattle.dump_command.specs.Dumping.{IsDumped}
use Rattle.install_commands.specs.declared.work.Work.{Work}
use Rattle.dump_command.proofs.DumpedWork.{dumped_made, dumped_refused, parents_if}
use Rattle.table_files.proofs.ToldExits.{one_exit}
use Rattle.dump_command.proofs.dumping.dumped_work.Goals as goal

pub returns-in_err-standing-clause-told : goal.returns-in_err-standing-clause-told
returns-in_err-standing-clause-told g c = λ t told.
    one_exit (λ (work : Work). work) (IsDumped c.args.project.now c.args.ways.now c.args.left.now.left t c.args.left.now.left) c.from_residual.result c.in_err-standing.field-0.0 c.from_residual.ensures.1
    (dumped_refused c.args.project.now c.args.ways.now c.args.left.now.left t c.args.left.now.left c.in_err-standing.field-0.0 (c.in_err-standing.ensures.told t told))

pub returns-clause-told : goal.returns-clause-told
returns-clause-told g c = λ t told.
    dumped_made c.args.project.now c.args.ways.now c.args.left.now.left t c.work_of_standing.new.left.left c.in_ok-standing.standing (c.in_ok-standing.ensures.told t told) c.work_of_standing.result
    (c.work_of_standing.ensures.told t (c.in_ok-standing.ensures.only_read.told ∙ told))

pub returns-clause-parents : goal.returns-clause-parents
returns-clause-parents g c = λ t told.
    parents_if c.args.project.now t c.work_of_standing.result c.work_of_standing.ensures.parents (c.in_ok-standing.ensures.folders t told)
