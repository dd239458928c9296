-- The tables that stand once a command answered its lines.
use Rattle.std.proofs.Common.{◌≡◌, ℕ, Bool, true, false, List, [], ◌∷◌, codes, Ok, refl, ap, ◌∙◌}
use Rattle.std.specs.Prelude.{◌||◌}
use Rattle.tree_dev.specs.Projects.{file_at, is_project_part, is_within, lock_path, vendor_path}
use Rattle.tree_dev.specs.Trees.{FileTree, IsTree}
use Rattle.composer_words.specs.declared.chosen.Ways.{Ways}
use Rattle.project_files.specs.Places.{composer_name, table_place}
use Rattle.stage_job.specs.Jobs.{Files}
use Rattle.table_scan.specs.TableFaults as grammar
use Rattle.table_scan.specs.TableGrammar.{vendor_name}
use Rattle.table_scan.specs.TableNames.{table_name}
use Rattle.table_scan.specs.declared.types.TableFile.{TableFile}
use Rattle.table_scan.specs.declared.types.TableFile.TheVariants as files
use Rattle.install_commands.specs.Claiming.{with_claim}
use Rattle.table_files.specs.Readable.{texts_at, texts_of}
use Rattle.install_packages.specs.Installations.{HasNewProject, installed_files, tables_in}
use Rattle.install_packages.proofs.NewProjects.{new_project}
use Rattle.install_packages.proofs.ShownPackages.{top_within}
use Rattle.install_packages.proofs.ShownTrees.{files_stand, setting}
use Rattle.install_packages.proofs.StandingFiles.{tables_read}

five_same : (at : List (List ℕ)) (one other : Files) → ((table : TableFile) → one (table_place at table) ≡ other (table_place at table)) → texts_of at one ≡ texts_of at other
five_same at one other same =
    let psr4 = same files.Psr4 in
    let psr0 = same files.Psr0 in
    let classes = same files.ClassMap in
    let listed = same files.Files in
    let state = same files.State in
    λ i. record { psr4 = psr4 i; psr0 = psr0 i; class_map = classes i; files = listed i; state = state i }

table_in_vendor : (at : List (List ℕ)) (table : TableFile) → is_project_part at (table_place at table) ≡ true
unfolding is_project_part vendor_name
table_in_vendor at table =
    let below = composer_name ∷ table_name table ∷ [] in
    by (is_within (lock_path at) (table_place at table)) (is_within (vendor_path at) (table_place at table)) (top_within at (codes "vendor") (codes "vendor") below)
  where
    by : (lock vendor : Bool) → vendor ≡ true → lock || vendor ≡ true
    by true vendor e = refl
    by false vendor e = e

module _ (at : List (List ℕ)) (ways : Ways) (start u : FileTree) (new : HasNewProject at ways start u) (claimed : IsTree (with_claim at start)) where
  abbrev t : FileTree
  t = with_claim at start

  abbrev pub stand : Files
  stand = installed_files at t new.made.members new.made.files (file_at t)

  pub file_same : (table : TableFile) → file_at u (table_place at table) ≡ stand (table_place at table)
  file_same table =
      (files_stand at ways start u new).each (table_place at table) (table_in_vendor at table)
      ∙ new_project t at new.choice.0 (setting at ways start u new) new.choice.1 new.after new.work new.made (table_place at table) claimed

  pub tables_stand : grammar.tables_of at (texts_at at u) ≡ Ok (tables_in new.made)
  tables_stand =
      ap (grammar.tables_of at) (five_same at (file_at u) stand file_same)
      ∙ tables_read t at new.choice.0 (setting at ways start u new) new.choice.1 new.after new.work new.made (file_at t)
