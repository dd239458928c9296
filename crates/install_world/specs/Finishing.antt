-- A journal that stands, whether its install is in flight or not, and what its finishing keeps of what is to come of it.
use Rattle.std.specs.Prelude.{◌≡◌, ◌≢◌, ◌⊎◌, ℕ, ◌<◌, ◌≤◌, ◌^◌, List, length, true, Some, None}
use Rattle.std.specs.FinMap as map
use Rattle.tree_dev.specs.Trees.{FileTree}
use Rattle.tree_dev.specs.Projects.{file_at, is_project_part, is_within, journal_path}
use Rattle.tree_dev.specs.declared.entry.Entry.TheVariants.{Folder}
use Rattle.install_world.specs.InFlight.{Files, HasJournal, IsFinishedProject, Placed, finished_by, part_at}
use Rattle.install_world.specs.Removals.{OnlyRemoved}
use Rattle.install_world.specs.declared.journal.Journal.{Journal}

-- The journal stands, in a text of fewer than 2^64 bytes.
pub record Stands (project : List (List ℕ)) (journal : Journal) (t : FileTree) : Type 0 where
  pub has : HasJournal project t journal
  pub small : length has.text < 2 ^ 64

-- Once the journal's job is done the project of both trees is the same, and the journal stands in the second as in the first.
pub record FinishesAlike (project : List (List ℕ)) (journal : Journal) (t u : FileTree) : Type 0 where
  pub stands : map.get u (journal_path project) ≡ map.get t (journal_path project)
  pub each : (path : List (List ℕ)) → is_project_part project path ≡ true → finished_by project journal.targets u path ≡ finished_by project journal.targets t path

-- Each entry is as it was, or is a folder at or above a path, where nothing was.
pub record OnlyMade (at : List (List ℕ)) (was now : FileTree) : Type 0 where
  pub each : (path : List (List ℕ)) → (map.get now path ≡ map.get was path)
      ⊎ ((is_within path at ≡ true) × ((map.get was path ≡ None) × (map.get now path ≡ Some Folder)))

-- Folders were made at and above one path, and then entries at and below another one removed.
pub record MakesReady (at kept : List (List ℕ)) (was now : FileTree) : Type 0 where
  pub between : FileTree
  pub made : OnlyMade at was between
  pub removed : OnlyRemoved kept between now

-- Nothing stands at a path, and all else is as it was.
pub record IsWithout (at : List (List ℕ)) (was now : FileTree) : Type 0 where
  pub gone : map.get now at ≡ None
  pub others : (path : List (List ℕ)) → path ≢ at → map.get now path ≡ map.get was path

-- Recovery gives both trees the same project.
abbrev pub KeepsFinished : List (List ℕ) → FileTree → FileTree → Type 0
KeepsFinished project t u = (files : Files) → IsFinishedProject project t files → IsFinishedProject project u files

-- Parts before one of a number are done as finishing does them, and the files at and below the targets of that one and of
-- those behind it are as they were, as are all that are at no target.
pub record StopsAt (project : List (List ℕ)) (journal : Journal) (number : ℕ) (t u : FileTree) : Type 0 where
  pub done : (path : List (List ℕ)) → is_project_part project path ≡ true → (part : Placed) → part_at project journal.targets path ≡ Some part → part.number < number
      → file_at u path ≡ finished_by project journal.targets t path
  pub left : (path : List (List ℕ)) → is_project_part project path ≡ true
      → ((part : Placed) → part_at project journal.targets path ≡ Some part → number ≤ part.number) → file_at u path ≡ file_at t path
