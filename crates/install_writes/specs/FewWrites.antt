-- How many files are mirrored of the packages that do not stand.
use Rattle.std.specs.Prelude.{ℕ, ◌+◌, List, [], ◌∷◌, length, Bool, true, false, if◌then◌else◌}
use Rattle.std.specs.List.{list_all}
use Rattle.tree_dev.specs.Trees.{FileTree}
use Rattle.stage_job.specs.Written.{mirrored_files}
use Rattle.stage_job.specs.declared.job.Part.{Part}
use Rattle.stage_job.specs.declared.job.Source.{Source}
use Rattle.stage_job.specs.declared.job.Source.TheVariants as sources

abbrev pub is_copy : Source → Bool
is_copy (sources.Copy source) = true
is_copy (sources.Bytes bytes) = false
is_copy (sources.Folder inner) = false
is_copy sources.Gone = false

-- each part is a copy of a package
abbrev pub are_copies : List Part → Bool
are_copies parts = list_all (λ part. is_copy part.from) parts

-- how many files of the tree are mirrored of a package
abbrev pub mirrored_count : FileTree → Source → ℕ
mirrored_count t (sources.Copy source) = length (mirrored_files t source)
mirrored_count t (sources.Bytes bytes) = 0
mirrored_count t (sources.Folder inner) = 0
mirrored_count t sources.Gone = 0

-- of the packages that do not stand, where for each a flag says whether it stands
abbrev pub differing_mirrored : FileTree → List Part → List Bool → ℕ
differing_mirrored t [] flags = 0
differing_mirrored t (part ∷ parts) [] = 0
differing_mirrored t (part ∷ parts) (flag ∷ flags) = (if flag then 0 else mirrored_count t part.from) + differing_mirrored t parts flags
