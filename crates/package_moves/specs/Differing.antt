-- How many files a job writes: those of what is wanted and does not stand already.
use Rattle.std.specs.Prelude.{ℕ, ◌+◌, List, [], ◌∷◌, Bool, true, false, if◌then◌else◌}
use Rattle.std.specs.List.{list_all}
use Rattle.tree_dev.specs.Trees.{FileTree}
use Rattle.stage_job.specs.Written.{part_files}
use Rattle.stage_job.specs.declared.job.Part.{Part}
use Rattle.stage_job.specs.declared.job.Source.{Source}
use Rattle.stage_job.specs.declared.job.Source.TheVariants as sources

-- the files of the parts that do not stand, where for each part a flag says whether it stands
abbrev pub differing_files : FileTree → List Part → List Bool → ℕ
differing_files t [] flags = 0
differing_files t (part ∷ parts) [] = 0
differing_files t (part ∷ parts) (flag ∷ flags) = (if flag then 0 else part_files t part.from) + differing_files t parts flags

abbrev pub is_bytes : Source → Bool
is_bytes (sources.Copy source) = false
is_bytes (sources.Bytes bytes) = true
is_bytes (sources.Folder inner) = false
is_bytes sources.Gone = false

-- each part is a written file
abbrev pub are_bytes : List Part → Bool
are_bytes parts = list_all (λ part. is_bytes part.from) parts
