-- New tables of a project, with the generation behind that of those that stand.
use Rattle.std.specs.Prelude.{◌≡◌, ◌⊎◌, ℕ, List, Bool, IsTrue, Option, Result, Ok, Err}
use Rattle.path_name.specs.Given.{◌>>=◌}
use Rattle.tree_dev.specs.Trees.{FileTree}
use Rattle.manifest_read.specs.declared.types.Manifest.{Manifest}
use Rattle.psr_routes.specs.declared.types.Placed.{Placed}
use Rattle.table_scan.specs.declared.types.Mode.{Mode}
use Rattle.table_scan.specs.declared.types.Tables.{Tables}
use Rattle.class_walk.specs.Walks.{AreScansOf, Walked}
use Rattle.class_walk.specs.declared.fault.WalkFault.{WalkFault}
use Rattle.class_walk.specs.declared.job.Scanned.{Scanned}
use Rattle.autoload_build.specs.Answers.{walks_of}
use Rattle.autoload_build.specs.BuiltTables.{tables_of}
use Rattle.autoload_build.specs.Jobs.{Project}
use Rattle.run_answers.specs.Faults.{is_free}
use Rattle.run_answers.specs.declared.refusal.Refusal.{Refusal}
use Rattle.table_files.specs.Modes.{next_generation}
use Rattle.table_files.specs.WalkRefusals.{or_not_walked, refusal_of_walk}
use Rattle.table_files.specs.declared.building.NewTables.{NewTables}
use Rattle.table_files.specs.declared.building.Setting.{Setting}

-- a project with its packages in their places
abbrev pub project_with : List (List ℕ) → Manifest → List Placed → Bool → Project
project_with at root members dev = record { at = at; root = root; members = members; dev = dev }

-- The tables of a generation are those of what the walks find, and as many entries are left; or the first refusal of the walks is
-- told.
abbrev pub FindsTables : Project → Mode → ℕ → Result Walked WalkFault → ℕ → Result Tables Refusal → Type 0
FindsTables p mode generation wanted left (Ok tables) =
    (walked : Walked) × (found : List Scanned) × (wanted ≡ Ok walked) × AreScansOf walked.found found × (walked.left ≡ left) × (tables ≡ tables_of p mode generation found)
FindsTables p mode generation wanted left (Err refusal) = IsTrue (is_free refusal) ⊎ (or_not_walked wanted ≡ Err refusal)

abbrev pub numbered : Tables → ℕ → NewTables
numbered tables generation = record { tables = tables; generation = generation }

-- tables with the generation behind that of the tables that stand
abbrev pub with_generation : Tables → Option ℕ → Result NewTables Refusal
with_generation tables stands = next_generation stands >>= λ generation. Ok (numbered tables generation)

abbrev pub built_tables : Project → Mode → List Scanned → ℕ → NewTables
built_tables p mode found generation = numbered (tables_of p mode generation found) generation

-- the tables of what was found, with the generation behind that of the tables that stand, and so many entries
abbrev pub tables_found : Project → Setting → List Scanned → ℕ → Result (NewTables × ℕ) Refusal
tables_found p setting found left = next_generation setting.stands >>= λ generation. Ok (built_tables p setting.mode found generation, left)

-- the same of what the walks find, or their first refusal
abbrev pub AreTablesOf : Project → Setting → Result Walked WalkFault → Result (NewTables × ℕ) Refusal → Type 0
AreTablesOf p setting (Ok walked) made = (found : List Scanned) × AreScansOf walked.found found × (made ≡ tables_found p setting found walked.left)
AreTablesOf p setting (Err fault) made = made ≡ Err (refusal_of_walk fault)

-- The tables of what the walks find in a tree of which so many entries may be listed, with the entries that may then still be
-- listed; or the first refusal: of the walks, or for want of a generation.
unfoldable pub AreNewTables : FileTree → Project → Setting → ℕ → Result (NewTables × ℕ) Refusal → Type 0
AreNewTables t p setting left = AreTablesOf p setting (walks_of t p setting.mode left)

-- Tables as they are built of some files.
pub record AreBuilt (p : Project) (mode : Mode) (new : NewTables) : Type 0 where
  pub found : List Scanned
  pub tables : new.tables ≡ tables_of p mode new.generation found
