-- How many names are listed of targets, and when a search for moves is refused.
use Rattle.std.specs.Prelude.{ℕ, zero, suc, ◌+◌, ◌-◌, List, [], ◌∷◌, ◌++◌, length, filter, nat_lt, if◌then◌else◌, Result, Ok, Err}
use Rattle.tree_dev.specs.Trees.{FileTree, entry_at, is_folder, names_in}
use Rattle.tree_dev.specs.declared.limits.LimitKind.TheVariants as limits
use Rattle.tree_dev.specs.declared.limits.TheConstants.{DEPTH}
use Rattle.stage_job.specs.Checked.{passes_top}
use Rattle.stage_job.specs.declared.fault.StageFault.{StageFault}
use Rattle.stage_job.specs.declared.fault.StageFault.TheVariants as faults
use Rattle.stage_job.specs.declared.job.Part.{Part}
use Rattle.stage_job.specs.declared.job.Source.{Source}
use Rattle.stage_job.specs.declared.job.Source.TheVariants as sources

-- how many names the folder at a path has; none where no folder is there
abbrev pub names_count : FileTree → List (List ℕ) → ℕ
names_count t at = if is_folder (entry_at t at) then length (names_in t at) else 0

-- ---- a target beside the source of a package

-- a number for a path of a source and the path beside it
abbrev pub Count : Type 0
Count = List (List ℕ) → List (List ℕ) → ℕ

-- the sum over the entries of these names in two folders
abbrev pub each_count : Count → List (List ℕ) → List (List ℕ) → List (List ℕ) → ℕ
each_count count from to [] = 0
each_count count from to (name ∷ names) = count (from ++ name ∷ []) (to ++ name ∷ []) + each_count count from to names

-- How many names are listed beside an entry of a source: of each folder at the place of a folder of the source, so many levels deep.
unfoldable pub beside_count : ℕ → FileTree → Count
beside_count zero t from to = 0
beside_count (suc levels) t from to = if is_folder (entry_at t from) then names_count t to + each_count (beside_count levels t) from to (names_in t from) else 0

-- The same beside a package, of which some top entries are not copied.
unfoldable pub package_count : FileTree → Count
package_count t from to = if is_folder (entry_at t from) then names_count t to + each_count (beside_count DEPTH t) from to (filter passes_top (names_in t from)) else 0

-- how many names are listed at and below the target of a part
abbrev pub target_count : FileTree → List (List ℕ) → Source → ℕ
target_count t to (sources.Copy source) = package_count t source to
target_count t to (sources.Bytes bytes) = 0
target_count t to (sources.Folder inner) = 0
target_count t to sources.Gone = 0

-- the same of all parts
abbrev pub targets_count : List (List ℕ) → FileTree → List Part → ℕ
targets_count project t [] = 0
targets_count project t (part ∷ parts) = target_count t (project ++ part.target) part.from + targets_count project t parts

-- how many entries may still be listed
abbrev pub counted_off : ℕ → ℕ → Result ℕ StageFault
counted_off count left = if nat_lt left count then Err (faults.Limit limits.Entries) else Ok (left - count)
