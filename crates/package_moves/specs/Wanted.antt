-- What is wanted of a project: parts that are copies of packages or files.
use Rattle.std.specs.Prelude.{◌≡◌, ◌⊎◌, ℕ, List, [], ◌∷◌, ◌++◌, codes, Bool, true, false, Option, Some, None, if◌then◌else◌}
use Rattle.tree_dev.specs.Trees.{FileTree, behind, entry_at}
use Rattle.tree_dev.specs.Projects.{is_within, vendor_path}
use Rattle.tree_dev.specs.declared.entry.Entry.{Entry}
use Rattle.stage_job.specs.Jobs.{Files, IsTargetApart, file_alone}
use Rattle.stage_job.specs.Mirrored.{is_mirrored}
use Rattle.stage_job.specs.declared.job.Part.{Part}
use Rattle.stage_job.specs.declared.job.Source.{Source}
use Rattle.stage_job.specs.declared.job.Source.TheVariants as sources

-- vendor, from the project
abbrev pub vendor_name : List (List ℕ)
vendor_name = codes "vendor" ∷ []

abbrev pub is_short : Option (List (List ℕ)) → Bool
is_short None = false
is_short (Some []) = false
is_short (Some (name ∷ [])) = true
is_short (Some (vendor ∷ name ∷ [])) = true
is_short (Some (vendor ∷ name ∷ more ∷ rest)) = false

-- composer.lock, or one or two segments below vendor
abbrev pub IsWantedTarget : List (List ℕ) → Type 0
IsWantedTarget target = (target ≡ codes "composer.lock" ∷ []) ⊎ (is_short (behind vendor_name target) ≡ true)

-- a copy of a package, or bytes
abbrev pub is_leaf_source : Source → Bool
is_leaf_source (sources.Copy source) = true
is_leaf_source (sources.Bytes bytes) = true
is_leaf_source (sources.Folder inner) = false
is_leaf_source sources.Gone = false

-- parts as an install wants them: no target is at or below another
abbrev pub AreWanted : List Part → Type 0
AreWanted [] = Unit {0}
AreWanted (part ∷ parts) = IsWantedTarget part.target × (is_leaf_source part.from ≡ true) × IsTargetApart part.target parts × AreWanted parts

-- what a copy of the package whose folder is `source` has at a place below it: all but the top entries that are left out
abbrev pub copied_entry : FileTree → List (List ℕ) → List (List ℕ) → Option Entry
copied_entry t source below = if is_mirrored below then entry_at t (source ++ below) else None

-- what is to stand at a part's target and below it: the copy of a package, or a file of its bytes
abbrev pub wanted_entry : FileTree → Source → List (List ℕ) → Option Entry
wanted_entry t (sources.Copy source) below = copied_entry t source below
wanted_entry t (sources.Bytes bytes) below = file_alone bytes below
wanted_entry t (sources.Folder inner) below = None
wanted_entry t sources.Gone below = None

-- At a part's target and below it stands already exactly what is to stand there.
pub record Stands (project : List (List ℕ)) (t : FileTree) (part : Part) : Type 0 where
  pub each : (below : List (List ℕ)) → entry_at t ((project ++ part.target) ++ below) ≡ wanted_entry t part.from below

-- the files of a project without those at and below its vendor
abbrev pub without_vendor : List (List ℕ) → Files → Files
without_vendor project old path = if is_within (vendor_path project) path then None else old path
