-- How many files a job writes, over the tree that its sources are read from: one for bytes, and of a package each file that is
-- mirrored. Each is written by one call.
use Rattle.std.specs.Prelude.{◌≡◌, ℕ, zero, suc, ◌+◌, ◌-◌, ◌^◌, ◌≤◌, List, [], ◌∷◌, ◌++◌, min, max, filter, sum_by, Bool, false, ◌&&◌, if◌then◌else◌, Option, Some, None, Result, MatchResult}
use Rattle.std.specs.FinMap.{keys}
use Rattle.tree_dev.specs.Trees.{FileTree, behind, entry_at, names_in}
use Rattle.tree_dev.specs.Changes.{is_file}
use Rattle.tree_dev.specs.declared.limits.TheConstants.{DEPTH}
use Rattle.stage_job.specs.Checked.{passes_top}
use Rattle.stage_job.specs.Mirrored.{is_mirrored}
use Rattle.stage_job.specs.declared.fault.StageFault.{StageFault}
use Rattle.stage_job.specs.declared.job.Inner.{Inner}
use Rattle.stage_job.specs.declared.job.Leaf.{Leaf}
use Rattle.stage_job.specs.declared.job.Leaf.TheVariants as leaves
use Rattle.stage_job.specs.declared.job.Part.{Part}
use Rattle.stage_job.specs.declared.job.Source.{Source}
use Rattle.stage_job.specs.declared.job.Source.TheVariants as sources

-- ---- files

-- the files at and below a path, so many levels down
unfoldable pub entry_files : ℕ → FileTree → List (List ℕ) → ℕ
entry_files zero t at = 0
entry_files (suc levels) t at =
    if is_file (entry_at t at) then 1 else sum_by (λ name. entry_files levels t (at ++ name ∷ [])) (names_in t at)

-- the files at and below the entries of these names in a folder
abbrev pub files_of_names : ℕ → FileTree → List (List ℕ) → List (List ℕ) → ℕ
files_of_names levels t folder names = sum_by (λ name. entry_files levels t (folder ++ name ∷ [])) names

-- how many files the copy of a package has
unfoldable pub package_files : FileTree → List (List ℕ) → ℕ
package_files t source = files_of_names DEPTH t source (filter passes_top (names_in t source))

abbrev pub leaf_files : FileTree → Leaf → ℕ
leaf_files t (leaves.Copy source) = package_files t source
leaf_files t (leaves.Bytes bytes) = 1

abbrev pub inner_files : FileTree → List Inner → ℕ
inner_files t inner = sum_by (λ part. leaf_files t part.from) inner

abbrev pub part_files : FileTree → Source → ℕ
part_files t (sources.Copy source) = package_files t source
part_files t (sources.Bytes bytes) = 1
part_files t (sources.Folder inner) = inner_files t inner
part_files t sources.Gone = 0

-- the files that the parts of a job put at their targets
unfoldable pub job_files : FileTree → List Part → ℕ
job_files t parts = sum_by (λ part. part_files t part.from) parts

-- ---- the files of a package by their paths

abbrev pub is_mirrored_behind : Option (List (List ℕ)) → Bool
is_mirrored_behind None = false
is_mirrored_behind (Some below) = is_mirrored below

abbrev pub is_mirrored_file : FileTree → List (List ℕ) → List (List ℕ) → Bool
is_mirrored_file t source path = is_file (entry_at t path) && is_mirrored_behind (behind source path)

-- the files of a tree that the copy of the package whose folder is `source` has, in path order
unfoldable pub mirrored_files : FileTree → List (List ℕ) → List (List (List ℕ))
mirrored_files t source = filter (is_mirrored_file t source) (keys t)

-- ---- calls

-- a count of 64 bits after so many more: it stands still at its last value
abbrev pub after_more : ℕ → ℕ → ℕ
after_more before more = max before (min (before + more) (2 ^ 64 - 1))

-- So many calls of `write` came where the call answers Ok; where it refuses, no more than that.
abbrev pub Writes : {X : Type 0} → ℕ → ℕ → ℕ → Result X StageFault → Type 0
Writes files before now result =
    MatchResult result (λ _. now ≡ after_more before files) (λ _. now ≤ after_more before files)
