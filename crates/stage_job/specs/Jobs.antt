-- Jobs: what each part puts at its target, and what a job makes of a project.
use Rattle.std.specs.Prelude.{◌≡◌, ◌⊎◌, ℕ, List, [], ◌∷◌, ◌++◌, codes, Bool, true, false, ◌||◌, Option, Some, None, IsTrue}
use Rattle.std.specs.List.{list_any}
use Rattle.tree_dev.specs.Trees.{FileTree, behind}
use Rattle.tree_dev.specs.Projects.{bytes_of, is_within, vendor_path, work_path}
use Rattle.tree_dev.specs.declared.entry.Entry.{Entry}
use Rattle.tree_dev.specs.declared.entry.Entry.TheVariants as entries
use Rattle.stage_job.specs.Mirrored.{mirrored}
use Rattle.stage_job.specs.declared.job.Inner.{Inner}
use Rattle.stage_job.specs.declared.job.Leaf.{Leaf}
use Rattle.stage_job.specs.declared.job.Leaf.TheVariants as leaves
use Rattle.stage_job.specs.declared.job.Part.{Part}
use Rattle.stage_job.specs.declared.job.Source.{Source}
use Rattle.stage_job.specs.declared.job.Source.TheVariants as sources

-- ---- what a part puts, by the path behind its target

abbrev pub file_alone : List ℕ → List (List ℕ) → Option Entry
file_alone bytes [] = Some (entries.File bytes)
file_alone bytes (segment ∷ rest) = None

abbrev pub leaf_entry : FileTree → Leaf → List (List ℕ) → Option Entry
leaf_entry t (leaves.Copy source) below = mirrored t source below
leaf_entry t (leaves.Bytes bytes) below = file_alone bytes below

-- some part of a folder has its place at or below a path, so that a folder stands there
abbrev pub is_above_inner : List Inner → List (List ℕ) → Bool
is_above_inner inner below = list_any (λ part. is_within below part.below) inner

abbrev pub inner_or : FileTree → Leaf → Option (List (List ℕ)) → Option Entry → Option Entry
inner_or t leaf None others = others
inner_or t leaf (Some below) others = leaf_entry t leaf below

abbrev pub folder_if : Bool → Option Entry
folder_if true = Some entries.Folder
folder_if false = None

-- what the parts of a folder put at and below their places; elsewhere what is given
abbrev pub inner_entry : FileTree → List Inner → List (List ℕ) → Option Entry → Option Entry
inner_entry t [] below others = others
inner_entry t (part ∷ inner) below others = inner_or t part.from (behind part.below below) (inner_entry t inner below others)

abbrev pub is_itself : List (List ℕ) → Bool
is_itself [] = true
is_itself (segment ∷ rest) = false

-- The folder itself, the parts of it, and the folders above them.
abbrev pub folder_entry : FileTree → List Inner → List (List ℕ) → Option Entry
folder_entry t inner below = inner_entry t inner below (folder_if (is_itself below || is_above_inner inner below))

-- what a part has at its target and below it, in the tree that its sources are read from
unfoldable pub part_entry : FileTree → Source → List (List ℕ) → Option Entry
part_entry t (sources.Copy source) below = mirrored t source below
part_entry t (sources.Bytes bytes) below = file_alone bytes below
part_entry t (sources.Folder inner) below = folder_entry t inner below
part_entry t sources.Gone below = None

-- whether a part's target is to be gone
abbrev pub is_gone : Source → Bool
is_gone (sources.Copy source) = false
is_gone (sources.Bytes bytes) = false
is_gone (sources.Folder inner) = false
is_gone sources.Gone = true

-- ---- what a job makes of a project

-- the bytes of the files of a project, by their paths; None where no file is
abbrev pub Files : Type 0
Files = List (List ℕ) → Option (List ℕ)

abbrev pub put_or : FileTree → Source → Option (List (List ℕ)) → Option (List ℕ) → Option (List ℕ)
put_or t source None others = others
put_or t source (Some below) others = bytes_of (part_entry t source below)

-- The files of a project after a job: at and below each target what its part puts there, and elsewhere the files of
-- before. Targets of a job are apart, so at most one part counts at a path.
unfoldable pub job_result : List (List ℕ) → FileTree → List Part → Files → Files
job_result project t [] old path = old path
job_result project t (part ∷ parts) old path = put_or t part.from (behind (project ++ part.target) path) (job_result project t parts old path)

-- ---- which jobs can be staged

-- neither path is at or below the other
abbrev pub AreApart : List (List ℕ) → List (List ℕ) → Type 0
AreApart a b = (behind a b ≡ None) × (behind b a ≡ None)

-- A package can be copied into a project from a folder that is not the project and does not lie above it, or at or below
-- its `vendor` or `.install`.
pub record CanCopy (project source : List (List ℕ)) : Type 0 where
  pub not_above : behind source project ≡ None
  pub vendor : behind (vendor_path project) source ≡ None
  pub work : behind (work_path project) source ≡ None

abbrev pub CanPutLeaf : List (List ℕ) → Leaf → Type 0
CanPutLeaf project (leaves.Copy source) = CanCopy project source
CanPutLeaf project (leaves.Bytes bytes) = Unit {0}

-- the place of a part of a folder is not at, below or above that of another
abbrev pub IsInnerApart : Inner → List Inner → Type 0
IsInnerApart part [] = Unit {0}
IsInnerApart part (other ∷ inner) = AreApart part.below other.below × IsInnerApart part inner

-- the parts of a folder: none is the folder itself, or at or below another
abbrev pub AreInner : List (List ℕ) → List Inner → Type 0
AreInner project [] = Unit {0}
AreInner project (part ∷ inner) =
    CanPutLeaf project part.from × (is_itself part.below ≡ false) × IsInnerApart part inner × AreInner project inner

abbrev pub CanPut : List (List ℕ) → Source → Type 0
CanPut project (sources.Copy source) = CanCopy project source
CanPut project (sources.Bytes bytes) = Unit {0}
CanPut project (sources.Folder inner) = AreInner project inner
CanPut project sources.Gone = Unit {0}

-- composer.lock, vendor, or a path below vendor
abbrev pub IsTarget : List (List ℕ) → Type 0
IsTarget target = (target ≡ codes "composer.lock" ∷ []) ⊎ (IsTrue (is_within (codes "vendor" ∷ []) target))

-- the target of a part is not at, below or above that of another
abbrev pub IsTargetApart : List (List ℕ) → List Part → Type 0
IsTargetApart target [] = Unit {0}
IsTargetApart target (other ∷ parts) = AreApart target other.target × IsTargetApart target parts

-- The parts of a job: each has a target in the project and can be put there, and no target is at or below another.
abbrev pub AreParts : List (List ℕ) → List Part → Type 0
AreParts project [] = Unit {0}
AreParts project (part ∷ parts) = IsTarget part.target × CanPut project part.from × IsTargetApart part.target parts × AreParts project parts
