use Rattle.std.proofs.Common.{sym, ap, ◌∙◌}
use Rattle.table_scan.specs.TableFaults as grammar
use Rattle.table_scan.specs.declared.types.TableTexts.{TableTexts}
use Rattle.dump_command.proofs.DumpedFiles.{built_stand}
use Rattle.dump_command.proofs.DumpedWork.{same_generation, same_parts, work_built}
use Rattle.dump_command.proofs.OpenedTables.{plain_opens}
use Rattle.dump_command.proofs.laws.dumped_tables.Goals as goal

pub returns-clause-read : goal.returns-clause-read
returns-clause-read c = λ project t u left after standing work old dumped stand.
    let built = work_built t project left after standing work dumped in (
      built.0,
      built.1.0,
      sym (same_generation project standing.is_listed built.0 work built.1.1),
      ap (λ (texts : TableTexts). grammar.tables_of project texts)
          (built_stand project t u left after standing built.0 old work.job.parts built.1.0 (same_parts project standing.is_listed built.0 work built.1.1) stand)
          ∙ built.1.2,
    )

pub returns-clause-plain : goal.returns-clause-plain
returns-clause-plain c = plain_opens c.plain_tables.ensures
