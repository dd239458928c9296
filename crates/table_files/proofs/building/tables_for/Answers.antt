use Rattle.std.specs.Prelude.{◌⊎◌, IsTrue}
use Rattle.std.proofs.Common.{◌≡◌, Bool, Err, sym, ap, ◌∙◌, subst}
use Rattle.tree_dev.specs.Device.{OnlyRead}
use Rattle.autoload_build.specs.Answers.{walks_of}
use Rattle.run_answers.specs.Faults.{is_free, is_of_device}
use Rattle.run_answers.specs.declared.refusal.Refusal.{Refusal}
use Rattle.table_scan.specs.declared.types.Tables.{Tables}
use Rattle.table_files.specs.NewTables.{project_with}
use Rattle.table_files.specs.WalkRefusals.{or_not_walked}
use Rattle.table_files.proofs.WalkFaults.{walk_device, walk_told}
use Rattle.table_files.proofs.building.tables_for.Goals as goal

pub returns-in-Ok-clause-told : goal.returns-in-Ok-clause-told
returns-in-Ok-clause-told g c = λ t told. let e = c.in-Ok.ensures.exact t told in (e.0, e.1, e.2, e.3.0, e.3.1, e.4)

pub returns-in-Err-clause-told : goal.returns-in-Err-clause-told
returns-in-Err-clause-told g c = λ t told.
    let wanted = walks_of t (project_with c.args.project.now c.args.root.now c.args.members.now c.args.setting.dev) c.args.setting.mode c.args.left.now.left in
    subst (λ (r : Refusal). IsTrue (is_free r) ⊎ (or_not_walked wanted ≡ Err r)) (sym c.refusal_of_walk.ensures.value)
    (walk_told wanted c.in-Err.fault (c.in-Err.ensures.exact t told))

pub returns-in-Err-clause-only_read : goal.returns-in-Err-clause-only_read
returns-in-Err-clause-only_read g c =
    subst (λ (failed : Bool). OnlyRead (g.T.Tree.meaning c.args.tree.now) (g.T.Tree.meaning c.tables.new.tree) failed)
    (walk_device Tables c.in-Err.fault ∙ ap is_of_device (sym c.refusal_of_walk.ensures.value)) c.in-Err.ensures.only_read
