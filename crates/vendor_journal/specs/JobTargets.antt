-- The targets of a job as its journal names them, and what its parts put there.
use Rattle.std.specs.Prelude.{ℕ, List, map, Option, Some, None}
use Rattle.std.specs.List.{slice_get}
use Rattle.tree_dev.specs.Trees.{FileTree}
use Rattle.tree_dev.specs.Projects.{bytes_of, file_at}
use Rattle.install_world.specs.InFlight.{job_result}
use Rattle.install_world.specs.Moving.{Way}
use Rattle.install_world.specs.declared.journal.Journal.{Journal}
use Rattle.install_world.specs.declared.target.Target.{Target}
use Rattle.stage_job.specs.Jobs.{Files, is_gone, part_entry}
use Rattle.stage_job.specs.declared.job.Part.{Part}

abbrev pub target_of : Part → Target
target_of part = record { path = part.target; gone = is_gone part.from }

-- the targets of a job, in the order of its parts
abbrev pub targets_of : List Part → List Target
targets_of parts = map target_of parts

-- the journal of a job that makes a generation
abbrev pub journal_for : List Part → ℕ → Journal
journal_for parts number = record { generation = number; targets = targets_of parts }

abbrev pub puts_or_none : FileTree → Option Part → Files
puts_or_none t None below = None
puts_or_none t (Some part) below = bytes_of (part_entry t part.from below)

-- the bytes of the files that the part of a number puts at its target and below it
abbrev pub puts_of : FileTree → List Part → ℕ → Files
puts_of t parts number = puts_or_none t (slice_get parts number)

-- The way of an install: from the project as it was in a tree at the start to what the moves of a job's targets make of it,
-- where the sources of the job are read in another tree.
abbrev pub install_way : List (List ℕ) → FileTree → FileTree → List Part → ℕ → Way
install_way project start t parts number = record {
  project = project;
  surroundings = start;
  old = file_at start;
  new = job_result project (targets_of parts) (puts_of t parts) (file_at start);
  journal = journal_for parts number;
}
