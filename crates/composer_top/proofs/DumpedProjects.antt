-- What stands of a dump, and what its tables open.
use Rattle.std.proofs.Common.{◌≡◌, ℕ, Bool, List, [], Result, Ok, Err, IsTrue, refl, sym, ap, subst, ◌∙◌}
use Rattle.tree_dev.specs.Device.{Meaning}
use Rattle.tree_dev.specs.Projects.{file_at}
use Rattle.tree_dev.specs.Trees.{FileTree}
use Rattle.tree_dev.specs.declared.limits.TheConstants.{ENTRIES}
use Rattle.class_lookup.specs.Lookup.{lookup_in}
use Rattle.class_paths.specs.Search.{search_file}
use Rattle.class_walk.specs.Walks.{AreScansOf, Walked}
use Rattle.class_walk.specs.declared.job.Scanned.{Scanned}
use Rattle.table_print.specs.TablePrinting.{printed}
use Rattle.table_scan.specs.declared.types.Mode.{Mode}
use Rattle.table_scan.specs.declared.types.Mode.TheVariants.{Plain}
use Rattle.table_scan.specs.declared.types.TableFault.{TableFault}
use Rattle.table_scan.specs.declared.types.Tables.{Tables}
use Rattle.autoload_build.specs.Answers.{walks_of}
use Rattle.autoload_build.specs.BuiltTables.{classes_of, tables_of}
use Rattle.autoload_build.specs.Jobs.{Project, rows}
use Rattle.composer_words.specs.declared.chosen.Ways.{Ways}
use Rattle.run_answers.specs.declared.refusal.Refusal.{Refusal}
use Rattle.install_choice.proofs.Steps.{both_ok}
use Rattle.install_commands.specs.Claiming.{with_claim}
use Rattle.install_commands.specs.Commanded.{IsLeft}
use Rattle.install_commands.specs.declared.work.Work.{Work}
use Rattle.table_files.specs.NewTables.{AreNewTables}
use Rattle.table_files.specs.Readable.{texts_at}
use Rattle.table_files.specs.Written.{AreReadBack, files_checked, parts_in, parts_of, written_files}
use Rattle.table_files.specs.declared.building.NewTables.{NewTables}
use Rattle.dump_command.specs.DumpedProjects.{IsDumpedProject}
use Rattle.dump_command.specs.Dumping.{IsDumped, IsWorkFrom, installed_text, tables_work}
use Rattle.dump_command.specs.Standing.{project_of, standing_in}
use Rattle.dump_command.specs.declared.standing.Standing.{Standing}
use Rattle.dump_command.proofs.DumpedFiles.{built_stand as built_texts}
use Rattle.dump_command.proofs.DumpedWork.{same_parts, work_built, work_parts}
use Rattle.dump_command.proofs.OpenedTables.{built_of}
use Rattle.install_packages.proofs.DoneCommands.{IsDone, done}
use Rattle.composer_top.specs.Opened.{AreTablesStanding, HasNewTables, OpensByRows}
use Rattle.composer_top.specs.Outcome.{RunChanges, is_done}
use Rattle.composer_top.specs.Outcome.Dump.{IsDumpWork}
use Rattle.composer_top.proofs.DoneRuns.{commanded}
use Rattle.composer_top.proofs.StandingBuilt.{built_stand, opens_by_rows}

-- ---- what a dump has made

module _ (project : List (List ℕ)) (ways : Ways) (start u : FileTree) (end : IsDone (IsDumpWork project ways) project start u) where
  from : (standing : Result Standing Refusal) → standing_in (with_claim project start) project ways ≡ standing → IsWorkFrom (with_claim project start) project ENTRIES end.after standing (Ok end.work)
      → HasNewTables project ways start u
  from (Ok standing) e dumped = record { standing = standing; stood = e; after = end.after; work = end.work; dumped = dumped; stands = end.stands }
  from (Err refusal) e dumped = absurd (let both : ◌≡◌ {A = Result Work Refusal} (Ok end.work) (Err refusal) = dumped in cc)

  new_tables : HasNewTables project ways start u
  unfolding IsDumped
  new_tables = from (standing_in (with_claim project start) project ways) refl end.is_made

pub dumped : (project : List (List ℕ)) (ways : Ways) (t u : FileTree) (before now : Meaning) (status : ℕ) → RunChanges (IsDumpWork project ways) project t before now status → IsTrue (is_done status)
    → IsLeft project t before now u → HasNewTables project ways t u
dumped project ways t u before now status run ended is_left =
    let did = commanded (IsDumpWork project ways) project t before now status run ended in
    new_tables project ways t u (done (IsDumpWork project ways) project t u before now did.0 did.1 is_left)

-- ---- its tables

module _ (project : List (List ℕ)) (ways : Ways) (start u : FileTree) (new : HasNewTables project ways start u) where
  abbrev claimed : FileTree
  claimed = with_claim project start

  abbrev party : Project
  party = project_of project new.standing

  abbrev pub AreTheirs : NewTables → Type 0
  AreTheirs built = AreNewTables claimed party new.standing.setting ENTRIES (Ok (built, new.after))

  module _ (built : NewTables) (are : AreTheirs built) (made : tables_work project new.standing.is_listed built ≡ Ok new.work) (back : AreReadBack project built.tables) where
    checked : files_checked project (written_files (printed project built.tables) (installed_text new.standing.is_listed)) ≡ Ok tt
    unfolding parts_in
    checked =
        let parts = work_parts project new.standing.is_listed built new.work made in
        (both_ok (files_checked project (written_files (printed project built.tables) (installed_text new.standing.is_listed)))
        (λ passed. Ok (parts_of (written_files (printed project built.tables) (installed_text new.standing.is_listed)))) parts.0 parts.1).1

    stand : AreTablesStanding project u built.tables
    unfolding written_files
    stand =
        let texts : texts_at project u ≡ printed project built.tables =
        built_texts project claimed u ENTRIES new.after new.standing built (file_at start) new.work.job.parts are (same_parts project new.standing.is_listed built new.work made) new.stands.has_files in
        let b = built_of claimed party new.standing.setting ENTRIES new.after built are in
        subst (AreTablesStanding project u) (sym b.4)
        (built_stand project u party new.standing.setting.mode built.generation b.1 (installed_text new.standing.is_listed) [] (texts ∙ ap (printed project) b.4) new.stands.no_journal
        (subst (λ (tables : Tables). files_checked project (written_files (printed project tables) (installed_text new.standing.is_listed)) ≡ Ok tt) b.4 checked)
        (subst (AreReadBack project) b.4 back))

  pub tables_stand : (built : NewTables) × AreTheirs built × AreTablesStanding project u built.tables
  tables_stand =
      let w = work_built claimed project ENTRIES new.after new.standing new.work new.dumped in
      (w.0, w.1.0, stand w.0 w.1.0 w.1.1 w.1.2)

  -- plain ones
  pub plain_tables_open : ((p : Project) (generation : ℕ) (listed : List Scanned) (is_file : List (List ℕ) → Bool) (name : List ℕ)
      → lookup_in (tables_of p Plain generation listed) is_file name ≡ search_file is_file (rows p) (classes_of listed) name)
      → new.standing.setting.mode ≡ Plain
      → (walked : Walked) × (found : List Scanned) × (walks_of claimed party Plain ENTRIES ≡ Ok walked) × AreScansOf walked.found found × OpensByRows party found u
  plain_tables_open law plain =
      let it = tables_stand in
      let b = built_of claimed party new.standing.setting ENTRIES new.after it.0 it.1 in (
        b.0,
        b.1,
        subst (λ (mode : Mode). walks_of claimed party mode ENTRIES ≡ Ok b.0) plain b.2,
        b.3,
        opens_by_rows party b.1 u it.0.tables it.2
            (λ is_file name.
            ap (λ (tables : Tables). lookup_in tables is_file name) (b.4 ∙ ap (λ (mode : Mode). tables_of party mode it.0.generation b.1) plain) ∙ law party it.0.generation b.1 is_file name),
      )

-- ---- the tables that a dump's own law speaks of are these

pub dumped_stand : (project : List (List ℕ)) (ways : Ways) (start u : FileTree) → HasNewTables project ways start u → (dumped : IsDumpedProject project ways ENTRIES start u)
    → AreTablesStanding project u dumped.new.tables
dumped_stand project ways start u new dumped =
    let it = tables_stand project ways start u new in
    subst (AreTablesStanding project u) (same it.0.tables dumped.new.tables (sym it.2.read ∙ dumped.read)) it.2
  where
    same : (one other : Tables) → ◌≡◌ {A = Result Tables TableFault} (Ok one) (Ok other) → one ≡ other
    same one other e = cc
