use Rattle.std.specs.Prelude.{All, IsTrue}
use Rattle.std.proofs.Common.{◌∙◌, sym, subst}
use Rattle.std.proofs.lemmas.Result.{err_from_is_err_and}
use Rattle.table_scan.specs.DistinctKeys.{HaveDistinctKeys}
use Rattle.table_scan.specs.TableGrammar.{is_whole}
use Rattle.table_scan.specs.declared.types.Tables.{Tables}
use Rattle.install_packages.specs.Installing.{IsWorkWith}
use Rattle.table_files.specs.NewTables.{AreNewTables, project_with}
use Rattle.install_choice.proofs.Sequencing.{stopped, went}
use Rattle.install_packages.proofs.Works.{read_manifests}
use Rattle.install_packages.proofs.job_steps.work_from.Goals as goal

pub returns-in_err-new-clause-told : goal.returns-in_err-new-clause-told
returns-in_err-new-clause-told g c = λ t told.
    let failed = err_from_is_err_and c.from_residual.result c.from_residual.ensures.1 in
    rw (failed.1, failed.2) (stopped (AreNewTables t (project_with c.args.project.now c.args.chosen.now.root c.args.members.now c.args.setting.dev) c.args.setting c.args.left.now.left)
    (IsWorkWith t c.args.project.now c.args.chosen.now c.args.setting.dev c.args.members.now) c.in_err-new.field-0.0 (c.in_err-new.ensures.told t told))

pub returns-clause-told : goal.returns-clause-told
returns-clause-told g c = λ t told.
    went (AreNewTables t (project_with c.args.project.now c.args.chosen.now.root c.args.members.now c.args.setting.dev) c.args.setting c.args.left.now.left)
    (IsWorkWith t c.args.project.now c.args.chosen.now c.args.setting.dev c.args.members.now) (c.in_ok-new.new, c.new_tables.new.left.left) (λ work. (work, c.work_with.new.left.left)) c.work_with.result
    (c.in_ok-new.ensures.told t told) (c.work_with.ensures.told t (c.in_ok-new.ensures.only_read.told ∙ told))

pub work_with-requires-clause-distinct : goal.work_with-requires-clause-distinct
work_with-requires-clause-distinct g c =
    let p = project_with c.args.project.now c.args.chosen.now.root c.args.members.now c.args.setting.dev in
    let built = c.in_ok-new.ensures.built in
    subst HaveDistinctKeys (sym built.tables) (c.tables_can_be_printed.ensures.distinct p c.args.setting.mode c.in_ok-new.new.generation built.found)

pub work_with-requires-clause-whole : goal.work_with-requires-clause-whole
work_with-requires-clause-whole g c =
    let p = project_with c.args.project.now c.args.chosen.now.root c.args.members.now c.args.setting.dev in
    let built = c.in_ok-new.ensures.built in
    subst (λ (it : Tables). All (λ row. IsTrue (is_whole row.prefix)) it.psr4) (sym built.tables)
    (c.tables_can_be_printed.ensures.whole p c.args.setting.mode c.in_ok-new.new.generation built.found
    (read_manifests c.args.project.now c.args.chosen.now.root c.args.members.now c.args.setting.dev c.requires.root c.requires.sources))
