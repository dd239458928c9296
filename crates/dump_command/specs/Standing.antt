-- What is read of a project before its tables are written anew.
use Rattle.std.specs.Prelude.{ℕ, List, [], Bool, true, false, not, ◌&&◌, Option, Some, None, Result, Ok, Err}
use Rattle.path_name.specs.Given.{◌>>=◌}
use Rattle.tree_dev.specs.Trees.{FileTree, kind_at}
use Rattle.tree_dev.specs.Projects.{vendor_path}
use Rattle.tree_dev.specs.declared.entry.Kind.{Kind}
use Rattle.tree_dev.specs.declared.entry.Kind.TheVariants as kinds
use Rattle.composer_words.specs.declared.chosen.Ways.{Ways}
use Rattle.lock_file.specs.declared.types.Installed.{Installed}
use Rattle.manifest_read.specs.declared.types.Manifest.{Manifest}
use Rattle.autoload_build.specs.Jobs.{Project}
use Rattle.run_answers.specs.declared.refusal.Refusal.{Refusal}
use Rattle.run_answers.specs.declared.refusal.Refusal.TheVariants as refusals
use Rattle.project_files.specs.InstalledFiles.{installed_in}
use Rattle.project_files.specs.Places.{composer_place}
use Rattle.project_files.specs.ProjectManifest.{project_manifest_in}
use Rattle.project_files.specs.States.{generation_in}
use Rattle.table_files.specs.Members.{members_in_place}
use Rattle.table_files.specs.Modes.{mode_of}
use Rattle.table_files.specs.NewTables.{project_with}
use Rattle.dump_command.specs.declared.standing.Standing.{Standing}

-- ---- the folders in which tables stand

abbrev pub folder_or_none : List (List ℕ) → Kind → Result (Unit {0}) Refusal
folder_or_none at kinds.Absent = Ok tt
folder_or_none at kinds.Folder = Ok tt
folder_or_none at kinds.File = Err (refusals.OtherEntry at)
folder_or_none at kinds.Other = Err (refusals.OtherEntry at)

-- nothing or a folder stands at a path
unfoldable pub no_other_entry : FileTree → List (List ℕ) → Result (Unit {0}) Refusal
no_other_entry t at = folder_or_none at (kind_at t at)

-- `vendor`, and then `vendor/composer`, is a folder or absent
unfoldable pub table_folders_in : FileTree → List (List ℕ) → Result (Unit {0}) Refusal
table_folders_in t project = no_other_entry t (vendor_path project) >>= λ passed. no_other_entry t (composer_place project)

-- ---- what stands

-- Rules for development count where they were installed, and the words don't say otherwise.
abbrev pub counts_dev : Ways → Installed → Bool
counts_dev ways installed = not ways.no_dev && installed.dev

-- The packages are those of installed.json, each in its place; without one there are none.
abbrev pub standing_of : List (List ℕ) → Ways → Option ℕ → Manifest → Option Installed → Standing
standing_of project ways stands root None = record {
  root = root;
  members = [];
  setting = record { mode = mode_of ways root; dev = false; stands = stands };
  is_listed = false;
}
standing_of project ways stands root (Some installed) = record {
  root = root;
  members = members_in_place project installed.packages;
  setting = record { mode = mode_of ways root; dev = counts_dev ways installed; stands = stands };
  is_listed = true;
}

-- The tables' folders are looked at, behind the manifest and what is installed.
unfoldable pub with_folders_in : FileTree → List (List ℕ) → Ways → Option ℕ → Manifest → Option Installed → Result Standing Refusal
with_folders_in t project ways stands root installed = table_folders_in t project >>= λ passed. Ok (standing_of project ways stands root installed)

-- What is installed is read behind the manifest.
unfoldable pub with_installed_in : FileTree → List (List ℕ) → Ways → Option ℕ → Manifest → Result Standing Refusal
with_installed_in t project ways stands root = installed_in t project >>= λ installed. with_folders_in t project ways stands root installed

-- the manifest without its hash
unfoldable pub root_in : FileTree → List (List ℕ) → Result Manifest Refusal
root_in t project = project_manifest_in t project >>= λ manifest. Ok manifest.root

-- The manifest, what is installed, and the tables' folders are looked at in this order; the first refusal counts.
unfoldable pub standing_in : FileTree → List (List ℕ) → Ways → Result Standing Refusal
standing_in t project ways = root_in t project >>= λ root. with_installed_in t project ways (generation_in t project) root

-- the project of the tables
abbrev pub project_of : List (List ℕ) → Standing → Project
project_of project standing = project_with project standing.root standing.members standing.setting.dev
