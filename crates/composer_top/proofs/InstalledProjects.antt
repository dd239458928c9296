-- What stands of an install or an update, and what its tables and its lock say.
use Rattle.std.proofs.Common.{◌≡◌, ℕ, Bool, true, List, [], ◌∷◌, Option, Some, None, Ok, IsTrue, refl, ap, subst, ◌∙◌, inr}
use Rattle.std.specs.Prelude.{◌||◌, is_none}
use Rattle.std.specs.Option.{option_map_or}
use Rattle.path_name.specs.Orders.{bytes_are_equal}
use Rattle.tree_dev.specs.Device.{Meaning}
use Rattle.tree_dev.specs.Projects.{file_at, is_project_part, is_within, lock_path, vendor_path}
use Rattle.tree_dev.specs.Trees.{FileTree, IsTree}
use Rattle.tree_dev.specs.declared.limits.TheConstants.{ENTRIES}
use Rattle.class_lookup.specs.Lookup.{lookup_in}
use Rattle.class_paths.specs.Search.{search_file}
use Rattle.class_walk.specs.declared.job.Scanned.{Scanned}
use Rattle.install_world.specs.InFlight.{HasFiles}
use Rattle.lock_file.specs.declared.types.Lock.{Lock}
use Rattle.manifest_read.specs.declared.types.Manifest.{Manifest}
use Rattle.plan_rules.specs.Validity.{first_broken}
use Rattle.plan_rules.specs.declared.rule.Rule.{Rule}
use Rattle.plan_rules.specs.declared.rule.Verdict.{Verdict}
use Rattle.plan_rules.specs.declared.rule.Verdict.TheVariants as verdicts
use Rattle.table_print.specs.TablePrinting.{printed}
use Rattle.table_scan.specs.declared.types.Mode.{Mode}
use Rattle.table_scan.specs.declared.types.Mode.TheVariants.{Plain}
use Rattle.table_scan.specs.declared.types.TableFile.TheVariants as files
use Rattle.autoload_build.specs.BuiltTables.{classes_of, tables_of}
use Rattle.autoload_build.specs.Jobs.{Project, rows}
use Rattle.composer_words.specs.declared.chosen.Ways.{Ways}
use Rattle.project_files.specs.ProjectLock.{pool_in, project_lock_in}
use Rattle.project_files.specs.ProjectManifest.{project_manifest_in}
use Rattle.project_files.specs.declared.manifests.ProjectManifest.{ProjectManifest}
use Rattle.install_sources.specs.Verdicts.{whole}
use Rattle.install_choice.specs.LockLaws.{IsMet}
use Rattle.install_choice.proofs.Updates.{update_locks}
use Rattle.install_commands.specs.Claiming.{with_claim}
use Rattle.install_commands.specs.Commanded.{IsLeft}
use Rattle.table_files.specs.Modes.{mode_of}
use Rattle.table_files.specs.Readable.{texts_at}
use Rattle.table_files.specs.Written.{files_checked}
use Rattle.table_files.specs.declared.written.WrittenFile.{WrittenFile}
use Rattle.install_packages.specs.InstallParts.{lock_file_of}
use Rattle.install_packages.specs.Installations.{HasNewProject, installed_files, project_in, tables_in}
use Rattle.install_packages.proofs.DoneCommands.{done}
use Rattle.install_packages.proofs.Unrolled.{update_unrolled}
use Rattle.install_packages.proofs.InstalledTables.{file_same, stand}
use Rattle.install_packages.proofs.NewProjects.{new_project}
use Rattle.install_packages.proofs.ShownTrees.{files_stand, itself_within, setting}
use Rattle.install_packages.proofs.StandingFiles.{lock_stands, printed_texts, there}
use Rattle.composer_top.specs.Opened.{AreTablesStanding, HasUpdated, OpensByRows}
use Rattle.composer_top.specs.Outcome.{RunChanges, is_done}
use Rattle.composer_top.specs.Outcome.Check.{check_outcome, check_report, compared, lock_compared}
use Rattle.composer_top.specs.Outcome.Install.{IsUpdateWork}
use Rattle.composer_top.proofs.DoneRuns.{commanded}
use Rattle.composer_top.proofs.StandingBuilt.{built_stand, opens_by_rows}

-- ---- what an update has made

module _ (project : List (List ℕ)) (ways : Ways) (t u : FileTree) (before now : Meaning) (status : ℕ) where
  -- what it chose is new
  pub run_updated : RunChanges (IsUpdateWork project ways) project t before now status → IsTrue (is_done status) → IsLeft project t before now u → HasUpdated project ways t u
  run_updated run ended is_left =
      let did = commanded (IsUpdateWork project ways) project t before now status run ended in
      let end = done (IsUpdateWork project ways) project t u before now did.0 did.1 is_left in
      let steps = update_unrolled project ways ENTRIES end.after (with_claim project t) end.work end.is_made in
      record {
        new = record { folder = end.folder; unclaimed = end.unclaimed; choice = steps.0; is_chosen = inr steps.1; after = end.after; work = end.work; made = steps.2; stands = end.stands };
        chosen = update_locks (with_claim project t) project ENTRIES steps.0 steps.1;
      }

-- ---- its tables

module _ (project : List (List ℕ)) (ways : Ways) (start u : FileTree) (new : HasNewProject project ways start u) where
  abbrev party : Project
  party = project_in new.made

  abbrev mode : Mode
  mode = mode_of ways new.choice.0.root

  module _ (claimed : IsTree (with_claim project start)) where
    texts_printed : texts_at project u ≡ printed project (tables_in new.made)
    texts_printed =
        rw (
          file_same project ways start u new claimed files.Psr4,
          file_same project ways start u new claimed files.Psr0,
          file_same project ways start u new claimed files.ClassMap,
          file_same project ways start u new claimed files.Files,
          file_same project ways start u new claimed files.State,
        )
        (printed_texts project (stand project ways start u new claimed) party mode new.work.generation new.made.found new.made.are_files.installed new.choice.0.text
        (there (with_claim project start) project new.choice.0 (setting project ways start u new) new.choice.1 new.after new.work new.made (file_at (with_claim project start))))

    pub tables_standing : AreTablesStanding project u (tables_in new.made)
    tables_standing =
        built_stand project u party mode new.work.generation new.made.found (Some new.made.are_files.installed) (lock_file_of new.choice.0.text ∷ []) texts_printed new.stands.no_journal
        (subst (λ (all : List WrittenFile). files_checked project all ≡ Ok tt) new.made.are_files.are new.made.none_long)
        new.made.are_files.read_back

    pub plain_opens : ((p : Project) (generation : ℕ) (listed : List Scanned) (is_file : List (List ℕ) → Bool) (name : List ℕ)
        → lookup_in (tables_of p Plain generation listed) is_file name ≡ search_file is_file (rows p) (classes_of listed) name)
        → mode ≡ Plain → OpensByRows party new.made.found u
    plain_opens law plain =
        opens_by_rows party new.made.found u (tables_in new.made) tables_standing
        (λ is_file name. ap (λ (some : Mode). lookup_in (tables_of party some new.work.generation new.made.found) is_file name) plain ∙ law party new.work.generation new.made.found is_file name)

-- ---- its files

lock_in_project : (project : List (List ℕ)) → is_project_part project (lock_path project) ≡ true
unfolding is_project_part
lock_in_project project = ap (λ (within : Bool). within || is_within (vendor_path project) (lock_path project)) (itself_within (lock_path project))

module _ (project : List (List ℕ)) (ways : Ways) (start u : FileTree) (new : HasNewProject project ways start u) (claimed : IsTree (with_claim project start)) where
  pub new_files : HasFiles project u (installed_files project (with_claim project start) new.made.members new.made.files (file_at (with_claim project start)))
  new_files = record {
    each = λ path part.
        (files_stand project ways start u new).each path part
        ∙ new_project (with_claim project start) project new.choice.0 (setting project ways start u new) new.choice.1 new.after new.work new.made path claimed;
  }

  pub lock_text : (text : List ℕ) → new.choice.0.text ≡ Some text → file_at u (lock_path project) ≡ Some text
  lock_text text written =
      new_files.each (lock_path project) (lock_in_project project)
      ∙ lock_stands (with_claim project start) project new.choice.0 (setting project ways start u new) new.choice.1 new.after new.work new.made (file_at (with_claim project start)) text written

-- ---- what `check` says of it

meets : (broken : Option Rule) → is_none broken ≡ true → option_map_or verdicts.Breaks broken verdicts.Meets ≡ verdicts.Meets
meets None e = refl
meets (Some rule) e = absurd cc

module _ (project : List (List ℕ)) (u : FileTree) (root : Manifest) (lock : Lock) (manifest : ProjectManifest) where
  pub checked : project_manifest_in u project ≡ Ok manifest → project_lock_in u project ≡ Ok lock → root ≡ manifest.root → IsMet project root lock
      → check_outcome u project ≡ Ok (check_report (bytes_are_equal manifest.content_hash lock.content_hash) verdicts.Meets)
  unfolding check_outcome lock_compared compared
  checked read locked same met =
      let offered : pool_in manifest.root lock project ≡ Ok met.pool = subst (λ (some : Manifest). pool_in some lock project ≡ Ok met.pool) same met.offered in
      rw (read, locked, offered) (ap (λ (verdict : Verdict). Ok (check_report (bytes_are_equal manifest.content_hash lock.content_hash) verdict)) (meets (first_broken met.pool (whole met.pool)) met.valid))
