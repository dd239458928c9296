-- What `recover` answers over a tree, and what it does to one.
use Rattle.std.specs.Prelude.{◌≡◌, ℕ, List, [], ◌∷◌, ◌++◌, codes, Bool, ◌||◌, false, nat_eq, None, Result, Ok, Err, IsTrue}
use Rattle.std.specs.FinMap as map
use Rattle.tree_dev.specs.Trees.{FileTree}
use Rattle.tree_dev.specs.Device.{Meaning, OfTold}
use Rattle.tree_dev.specs.Disk.{reading}
use Rattle.tree_dev.specs.Projects.{journal_path, work_path}
use Rattle.tree_dev.specs.Steady.{EachImage, Through}
use Rattle.install_world.specs.AtOnce.{IsDueAtOnce, IsStopped, NothingStops}
use Rattle.install_world.specs.Finishing.{KeepsFinished, StopsAt}
use Rattle.install_world.specs.InFlight.{Files, HasFiles, HasJournal, IsFinishedProject, IsInFlight, IsThere}
use Rattle.install_world.specs.declared.journal.Journal.{Journal}
use Rattle.install_world.specs.Recovery.{CanBeFinished, HasBadJournal, IsLong, IsOtherEntry, IsRecovered, recovered_in}
use Rattle.tree_dev.specs.declared.limits.LimitKind.TheVariants.{FileBytes}
use Rattle.install_world.specs.declared.recovery_fault.RecoverFault.{RecoverFault}
use Rattle.install_world.specs.declared.recovery_fault.Recovered.{Recovered}
use Rattle.install_world.specs.declared.recovery_fault.Recovered.TheVariants as did
use Rattle.install_commands.specs.Refusals.{refusal_of_recovery}
use Rattle.run_answers.specs.Statuses.{status_of}
use Rattle.run_answers.specs.declared.refusal.Refusal.{Refusal}
use Rattle.run_answers.specs.declared.refusal.Refusal.TheVariants as refusals

-- ---- what it answers

unfoldable pub recovery_line : Recovered → List ℕ
recovery_line did.NothingToDo = codes "nothing to do" ++ 10 ∷ []
recovery_line did.Removed = codes "removed" ++ 10 ∷ []
recovery_line did.Finished = codes "finished" ++ 10 ∷ []

-- Another kind of entry stood at a path, and stands there, than is needed: at `.install` or its journal, or where it stops the
-- first part of a journal that is stopped. Of a journal that stands the parts before one are done, and that one and those behind
-- it are as they were.
pub record StandsInTheWay (project path : List (List ℕ)) (t : FileTree) (now : Meaning) : Type 0 where
  pub stopped : IsStopped project t path
  pub other : OfTold now (IsOtherEntry project path)
  pub stops : (journal : Journal) → HasJournal project t journal → (number : ℕ) × StopsAt project journal number t (reading now.disks.now)

-- With what recovery is refused over a tree t, where it leaves what is told afterwards: the journal is bad at that place, or it
-- is too long; or another kind of entry stands where a folder or a file is needed. Nothing vanishes.
abbrev pub IsRecoveryRefused : List (List ℕ) → FileTree → Meaning → Refusal → Type 0
IsRecoveryRefused project t now (refusals.BadJournal place) = HasBadJournal project t place
IsRecoveryRefused project t now (refusals.OtherEntry path) = StandsInTheWay project path t now
IsRecoveryRefused project t now (refusals.Limit limit) = (limit ≡ FileBytes (journal_path project)) × IsLong (journal_path project) t
IsRecoveryRefused project t now _ = ⊥

-- Where a refusal is due before anything is done, the answer is that refusal; and where something stops a part, it is not done.
abbrev pub AnswersDue : {X : Type 0} → List (List ℕ) → FileTree → Result X Refusal → Type 0
AnswersDue project t (Ok x) = ((due : RecoverFault) → IsDueAtOnce project t due → ⊥) × NothingStops project t
AnswersDue project t (Err refusal) = (due : RecoverFault) → IsDueAtOnce project t due → refusal_of_recovery due ≡ refusal

-- What is answered over a tree: the refusal that is due before anything is done; else the line for what is to be done there, or a
-- refusal that comes on the way.
abbrev pub IsRecoveryAnswer : List (List ℕ) → FileTree → Meaning → Result (List ℕ) Refusal → Type 0
IsRecoveryAnswer project t now (Ok lines) = (recovery_line (recovered_in project t) ≡ lines) × AnswersDue {X = List ℕ} project t (Ok lines)
IsRecoveryAnswer project t now (Err refusal) = IsRecoveryRefused project t now refusal × AnswersDue {X = List ℕ} project t (Err refusal)

-- The journal could not be read: it is bad or too long.
abbrev pub is_unread : {X : Type 0} → Result X Refusal → Bool
is_unread (Ok x) = false
is_unread (Err refusal) = nat_eq (status_of refusal) 11 || nat_eq (status_of refusal) 12

-- ---- what it does

-- What recovery does to a tree. Where all images are in flight from an old project to a new one, they are so at each moment.
-- Whatever it answers, the project that it leads to stays the same, so it can be run again; and where all images are in flight and
-- lead to one same project, they do so at each moment, so it can be cut off. It is done only where `.install` is a folder or absent
-- and a journal that stands says one; and then the project is the finished one of the tree as it read, in each image too where
-- `.install` was there, and nothing is at `.install`.
pub record Recovers (project : List (List ℕ)) (before now : Meaning) (done : Bool) : Type 0 where
  pub through : OfTold before (λ t. (surroundings : FileTree) (old new : Files) → EachImage before (IsInFlight project surroundings old new)
      → Through before now (IsInFlight project surroundings old new))
  pub again : OfTold before (λ t. KeepsFinished project t (reading now.disks.now))
  pub ends : OfTold before (λ t. (surroundings : FileTree) (old new files : Files) → EachImage before (IsInFlight project surroundings old new)
      → EachImage before (λ left. IsFinishedProject project left files) → Through before now (λ left. IsFinishedProject project left files))
  pub only : IsTrue done → OfTold before (CanBeFinished project)
  pub finished : IsTrue done → OfTold before (λ t. (files : Files) → IsFinishedProject project t files → HasFiles project (reading now.disks.now) files)
  pub settled : IsTrue done → OfTold before (λ t. IsThere t (work_path project) → (files : Files) → IsFinishedProject project t files
      → EachImage now (IsRecovered project files))
  pub gone : IsTrue done → OfTold now (λ t. map.get t (work_path project) ≡ None)
