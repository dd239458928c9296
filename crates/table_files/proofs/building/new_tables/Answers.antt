use Rattle.autoload_build.specs.Answers.{walks_of}
use Rattle.table_files.specs.NewTables.{AreNewTables, AreTablesOf, project_with}
use Rattle.table_files.proofs.TablesMade.{tables_built, tables_made, walks_stop}
use Rattle.table_files.proofs.ToldExits.{one_exit}
use Rattle.table_files.proofs.building.new_tables.Goals as goal

pub returns-in_err-tables-clause-told : goal.returns-in_err-tables-clause-told
unfolding AreNewTables
returns-in_err-tables-clause-told g c = λ t told.
    let p = project_with c.args.project.now c.args.root.now c.args.members.now c.args.setting.dev in
    let wanted = walks_of t p c.args.setting.mode c.args.left.now.left in
    one_exit (λ new. (new, c.tables_for.new.left.left)) (AreTablesOf p c.args.setting wanted) c.from_residual.result c.in_err-tables.field-0.0 c.from_residual.ensures.1
    (walks_stop p c.args.setting wanted c.in_err-tables.field-0.0 (c.in_err-tables.ensures.told t told))

pub returns-clause-told : goal.returns-clause-told
unfolding AreNewTables
returns-clause-told g c = λ t told.
    let p = project_with c.args.project.now c.args.root.now c.args.members.now c.args.setting.dev in
    let e = c.in_ok-tables.ensures.told t told in
    tables_made p c.args.setting e.1 c.tables_for.new.left.left c.generation_behind-generation.result c.in_ok-tables.tables c.generation_behind-generation.ensures e.5
    e.0 (walks_of t p c.args.setting.mode c.args.left.now.left) c.with_generation.result e.2 e.3 e.4 c.with_generation.ensures.told

pub returns-clause-built : goal.returns-clause-built
returns-clause-built g c =
    let p = project_with c.args.project.now c.args.root.now c.args.members.now c.args.setting.dev in
    let found = c.in_ok-tables.ensures.formed in
    tables_built p c.args.setting found.0 c.tables_for.new.left.left c.generation_behind-generation.result c.in_ok-tables.tables c.generation_behind-generation.ensures found.1 c.with_generation.result c.with_generation.ensures.tables
