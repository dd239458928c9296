-- What a build of tables answers.
use Rattle.std.specs.Prelude.{◌≡◌, ℕ, List, ◌++◌, Result, Ok, Err}
use Rattle.std.specs.List.{AllByRecursion}
use Rattle.path_name.specs.Paths.{BeginsWith}
use Rattle.tree_dev.specs.Trees.{FileTree}
use Rattle.class_walk.specs.Walks.{AreScansOf, Walked, class_scan}
use Rattle.class_walk.specs.Faults.{Refuses, Tells}
use Rattle.class_walk.specs.declared.fault.WalkFault.{WalkFault}
use Rattle.class_walk.specs.declared.job.Scanned.{Scanned}
use Rattle.table_scan.specs.declared.types.Mode.{Mode}
use Rattle.table_scan.specs.declared.types.Mode.TheVariants.{Plain, Optimised}
use Rattle.table_scan.specs.declared.types.Tables.{Tables}
use Rattle.autoload_build.specs.Jobs.{Project, jobs_of, patterns_of}
use Rattle.autoload_build.specs.BuiltTables.{tables_of}

-- what the walks of a mode find in a tree, and how many entries may then still be listed; or the first refusal
abbrev pub walks_of : FileTree → Project → Mode → ℕ → Result Walked WalkFault
walks_of t p mode left = class_scan t (jobs_of mode p) (patterns_of p) left

-- The tables are those of what the walks find, and as many entries are left; or the first refusal of the walks is told.
abbrev pub Builds : Result Walked WalkFault → Project → Mode → ℕ → ℕ → Result Tables WalkFault → Type 0
Builds wanted p mode generation left (Ok tables) = (walked : Walked) × (found : List Scanned) × (wanted ≡ Ok walked) × Tells walked found left × (tables ≡ tables_of p mode generation found)
Builds wanted p mode generation left (Err fault) = Refuses fault wanted

-- the files that were scanned lie at or below a folder
abbrev pub AreShownBelow : List (List ℕ) → List Scanned → Type 0
AreShownBelow folder found = AllByRecursion (λ scanned. BeginsWith scanned.shown folder) found

-- what the walks of listed paths find in a tree, and what those of the folders of rows find behind it
pub record AreFound (t : FileTree) (p : Project) (left : ℕ) (listed walked : List Scanned) : Type 0 where
  pub first : Walked
  pub all : Walked
  pub lists : walks_of t p Plain left ≡ Ok first
  pub listed_files : AreScansOf first.found listed
  pub walks : walks_of t p Optimised left ≡ Ok all
  pub files : AreScansOf all.found (listed ++ walked)
