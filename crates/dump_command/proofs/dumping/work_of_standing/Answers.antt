use Rattle.std.proofs.Common.{List, All, IsTrue, sym, subst}
use Rattle.table_scan.specs.DistinctKeys.{HaveDistinctKeys}
use Rattle.table_scan.specs.TableGrammar.{is_whole}
use Rattle.table_scan.specs.declared.types.Tables.{Tables}
use Rattle.psr_routes.specs.declared.types.Placed.{Placed}
use Rattle.table_files.specs.NewTables.{AreBuilt, project_with}
use Rattle.table_files.proofs.ToldExits.{one_exit}
use Rattle.install_commands.specs.declared.work.Work.{Work}
use Rattle.dump_command.specs.Dumping.{IsStandingWork}
use Rattle.dump_command.specs.Standing.{project_of}
use Rattle.dump_command.proofs.DumpedWork.{few_of, made_work, parents_of, refused_tables, work_if}
use Rattle.dump_command.proofs.dumping.work_of_standing.Goals as goal

pub tables_work-requires-clause-distinct : goal.tables_work-requires-clause-distinct
tables_work-requires-clause-distinct g c =
    let built = c.in_ok-new.ensures.built in
    subst (λ (some : Tables). HaveDistinctKeys some) (sym built.tables)
    (c.tables_can_be_printed.ensures.distinct (project_with c.args.project.now c.args.standing.now.root c.as_slice-members.result.now c.args.standing.now.setting.dev)
    c.args.standing.now.setting.mode c.in_ok-new.new.generation built.found)

pub tables_work-requires-clause-whole : goal.tables_work-requires-clause-whole
tables_work-requires-clause-whole g c =
    let built = subst (λ (some : List Placed). AreBuilt (project_with c.args.project.now c.args.standing.now.root some c.args.standing.now.setting.dev) c.args.standing.now.setting.mode c.in_ok-new.new)
    c.as_slice-members.ensures c.in_ok-new.ensures.built in
    subst (λ (some : Tables). All (λ row. IsTrue (is_whole row.prefix)) some.psr4) (sym built.tables)
    (c.tables_can_be_printed.ensures.whole (project_of c.args.project.now c.args.standing.now) c.args.standing.now.setting.mode c.in_ok-new.new.generation built.found c.requires.formed)

pub returns-in_err-new-clause-told : goal.returns-in_err-new-clause-told
returns-in_err-new-clause-told g c = λ t told.
    one_exit (λ (work : Work). work) (IsStandingWork t c.args.project.now c.args.left.now.left c.new_tables.new.left.left c.args.standing.now) c.from_residual.result c.in_err-new.field-0.0
    c.from_residual.ensures.1
    (refused_tables t c.args.project.now c.args.left.now.left c.new_tables.new.left.left c.args.standing.now c.as_slice-members.result.now c.as_slice-members.ensures c.in_err-new.field-0.0
    (c.in_err-new.ensures.told t told))

pub returns-clause-told : goal.returns-clause-told
returns-clause-told g c = λ t told.
    made_work t c.args.project.now c.args.left.now.left c.new_tables.new.left.left c.args.standing.now c.as_slice-members.result.now c.as_slice-members.ensures c.in_ok-new.new
    (c.in_ok-new.ensures.told t told) c.tables_work.result c.tables_work.ensures.told c.tables_work.ensures.read_back

pub returns-clause-work : goal.returns-clause-work
returns-clause-work g c = work_if c.args.project.now c.args.standing.now.is_listed c.in_ok-new.new c.tables_work.result c.in_ok-new.ensures.first c.tables_work.ensures.told

pub returns-clause-parents : goal.returns-clause-parents
returns-clause-parents g c = parents_of c.args.project.now c.args.standing.now.is_listed c.in_ok-new.new c.tables_work.result c.tables_work.ensures.told

pub returns-clause-few : goal.returns-clause-few
returns-clause-few g c = λ t. few_of c.args.project.now c.args.standing.now.is_listed c.in_ok-new.new t c.tables_work.result c.tables_work.ensures.told
