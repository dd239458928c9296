-- Whether a job can be staged: the sources of its parts are looked at in order, the entries of each in path order, and the
-- first refusal counts. Each folder is listed once, and its names are counted against the entries that may still be listed.
use Rattle.std.specs.Prelude.{ℕ, zero, suc, ◌-◌, List, [], ◌∷◌, ◌++◌, length, Bool, true, not, nat_lt, if◌then◌else◌, Option, Some, None, Result, Ok, Err}
use Rattle.std.specs.List.{filter}
use Rattle.path_name.specs.Given.{◌>>=◌}
use Rattle.path_name.specs.Paths.{path_text}
use Rattle.tree_dev.specs.Trees.{FileTree, entry_at, names_in}
use Rattle.tree_dev.specs.declared.entry.Entry.{Entry}
use Rattle.tree_dev.specs.declared.entry.Entry.TheVariants as entries
use Rattle.tree_dev.specs.declared.limits.LimitKind.TheVariants as limits
use Rattle.tree_dev.specs.declared.limits.TheConstants.{DEPTH, FILE_BYTES}
use Rattle.stage_job.specs.Mirrored.{is_left_out}
use Rattle.stage_job.specs.declared.fault.StageFault.{StageFault}
use Rattle.stage_job.specs.declared.fault.StageFault.TheVariants as faults
use Rattle.stage_job.specs.declared.job.Inner.{Inner}
use Rattle.stage_job.specs.declared.job.Leaf.{Leaf}
use Rattle.stage_job.specs.declared.job.Leaf.TheVariants as leaves
use Rattle.stage_job.specs.declared.job.Part.{Part}
use Rattle.stage_job.specs.declared.job.Source.{Source}
use Rattle.stage_job.specs.declared.job.Source.TheVariants as sources

-- how many entries may still be listed once a path was looked at, or the first refusal
abbrev pub Check : Type 0
Check = List (List ℕ) → ℕ → Result ℕ StageFault

-- the entries of these names in a folder, in order
abbrev pub each_checked : Check → List (List ℕ) → List (List ℕ) → ℕ → Result ℕ StageFault
each_checked check folder [] left = Ok left
each_checked check folder (name ∷ names) left = check (folder ++ name ∷ []) left >>= λ rest. each_checked check folder names rest

-- A folder: all its names count, and those that pass are looked at.
abbrev pub folder_checked : Check → (List ℕ → Bool) → FileTree → List (List ℕ) → ℕ → Result ℕ StageFault
folder_checked check passes t folder left =
    if nat_lt left (length (names_in t folder)) then Err (faults.Limit limits.Entries)
    else each_checked check folder (filter passes (names_in t folder)) (left - length (names_in t folder))

-- a file of so many bytes at a path
abbrev pub bytes_checked : List (List ℕ) → List ℕ → ℕ → Result ℕ StageFault
bytes_checked at bytes left = if nat_lt FILE_BYTES (length bytes) then Err (faults.Limit (limits.FileBytes at)) else Ok left

-- an entry that lies too deep
abbrev pub deep_checked : List (List ℕ) → Option Entry → ℕ → Result ℕ StageFault
deep_checked at None left = Ok left
deep_checked at (Some (entries.File bytes)) left = Err (faults.Limit (limits.Depth at))
deep_checked at (Some entries.Folder) left = Err (faults.Limit (limits.Depth at))
deep_checked at (Some entries.Other) left = Err (faults.OtherEntry at)

abbrev pub kind_checked : Result ℕ StageFault → List (List ℕ) → Option Entry → ℕ → Result ℕ StageFault
kind_checked folder at None left = Ok left
kind_checked folder at (Some (entries.File bytes)) left = bytes_checked at bytes left
kind_checked folder at (Some entries.Folder) left = folder
kind_checked folder at (Some entries.Other) left = Err (faults.OtherEntry at)

abbrev pub passes_all : List ℕ → Bool
passes_all name = true

-- an entry of a package, and what lies below it, where so many more levels are allowed
unfoldable pub entry_checked : ℕ → FileTree → Check
entry_checked zero t at left = deep_checked at (entry_at t at) left
entry_checked (suc levels) t at left = kind_checked (folder_checked (entry_checked levels t) passes_all t at left) at (entry_at t at) left

abbrev pub passes_top : List ℕ → Bool
passes_top name = not (is_left_out name)

abbrev pub source_kind_checked : Result ℕ StageFault → List (List ℕ) → Option Entry → Result ℕ StageFault
source_kind_checked folder source None = Err (faults.MissingPath (path_text source))
source_kind_checked folder source (Some (entries.File bytes)) = Err (faults.OtherEntry source)
source_kind_checked folder source (Some entries.Folder) = folder
source_kind_checked folder source (Some entries.Other) = Err (faults.OtherEntry source)

-- a package that is to be copied
unfoldable pub package_checked : FileTree → Check
package_checked t source left = source_kind_checked (folder_checked (entry_checked DEPTH t) passes_top t source left) source (entry_at t source)

-- what is to stand at a path, in a folder of parts or at a target
abbrev pub leaf_checked : FileTree → List (List ℕ) → Leaf → ℕ → Result ℕ StageFault
leaf_checked t at (leaves.Copy source) left = package_checked t source left
leaf_checked t at (leaves.Bytes bytes) left = bytes_checked at bytes left

abbrev pub inner_checked : FileTree → List (List ℕ) → List Inner → ℕ → Result ℕ StageFault
inner_checked t at [] left = Ok left
inner_checked t at (part ∷ inner) left = leaf_checked t (at ++ part.below) part.from left >>= λ rest. inner_checked t at inner rest

unfoldable pub part_checked : FileTree → List (List ℕ) → Source → ℕ → Result ℕ StageFault
part_checked t at (sources.Copy source) left = package_checked t source left
part_checked t at (sources.Bytes bytes) left = bytes_checked at bytes left
part_checked t at (sources.Folder inner) left = inner_checked t at inner left
part_checked t at sources.Gone left = Ok left

-- the parts of a job of a project
unfoldable pub job_checked : List (List ℕ) → FileTree → List Part → ℕ → Result ℕ StageFault
job_checked project t [] left = Ok left
job_checked project t (part ∷ parts) left = part_checked t (project ++ part.target) part.from left >>= λ rest. job_checked project t parts rest
