-- What a commit begins with, and what it makes.
use Rattle.std.specs.Prelude.{◌≡◌, ℕ, ◌≤◌, ◌<◌, ◌^◌, List, Bool, IsTrue, None, is_some}
use Rattle.std.specs.FinMap as map
use Rattle.tree_dev.specs.Trees.{FileTree, behind}
use Rattle.tree_dev.specs.Device.{Meaning, Rose}
use Rattle.tree_dev.specs.Projects.{journal_path}
use Rattle.install_world.specs.InFlight.{Files, HasFiles, HasSurroundings, IsStagedJob, draft_path, job_result, kept_path}
use Rattle.install_world.specs.Moving.{Way}
use Rattle.vendor_journal.specs.declared.prepared.Prepared.{Prepared}
use Rattle.vendor_journal.specs.Prepared.{IsPrepared}

-- A job that is staged whole in a tree, and made ready: the way is from the project that stands to what the job makes
-- of it.
pub record IsReady (way : Way) (puts : ℕ → Files) (prepared : Prepared) (t : FileTree) : Type 0 where
  pub made_ready : IsPrepared way.project way.journal prepared
  pub job : IsStagedJob way.project way.journal.targets puts t
  pub old_files : HasFiles way.project t way.old
  pub outside : HasSurroundings way.project way.surroundings t
  pub new_files : way.new ≡ job_result way.project way.journal.targets puts way.old

-- Calls of a device lie between: a tree that was told still is, and the count of faults has not fallen. failed says
-- whether the last call failed: then it rose.
pub record Calls (before now : Meaning) (failed : Bool) : Type 0 where
  pub tells : is_some now.told ≡ is_some before.told
  pub faults : before.faults ≤ now.faults
  pub cause : IsTrue failed → Rose before.faults now.faults

-- Only at and below the journal and its draft did a tree change.
pub record ChangesJournal (project : List (List ℕ)) (t now : FileTree) : Type 0 where
  pub others : (path : List (List ℕ)) → behind (journal_path project) path ≡ None → behind (draft_path project) path ≡ None → map.get now path ≡ map.get t path

-- Nothing stands where the targets of the parts from a number on go when they are taken away.
pub record HasRoomFrom (project : List (List ℕ)) (first : ℕ) (t : FileTree) : Type 0 where
  pub free : (number : ℕ) → first ≤ number → number < 2 ^ 64 → map.get t (kept_path project number) ≡ None
