-- What is made ready for a commit.
use Rattle.std.specs.Prelude.{◌≡◌, ℕ, ◌<◌, ◌^◌, List, length, Some}
use Rattle.std.specs.List.{slice_get}
use Rattle.tree_dev.specs.Projects.{journal_path}
use Rattle.install_world.specs.InFlight.{IsPart, draft_path}
use Rattle.install_world.specs.JournalText.{IsJournal, journal_text}
use Rattle.install_world.specs.Moving.{ArePlaces}
use Rattle.install_world.specs.declared.journal.Journal.{Journal}
use Rattle.install_world.specs.declared.target.Target.{Target}
use Rattle.install_world.specs.declared.version.Version.TheVariants.{Two}
use Rattle.vendor_journal.specs.declared.prepared.Prepared.{Prepared}
use Rattle.vendor_journal.specs.declared.prepared.PreparedPart.{PreparedPart}

-- the part of a target, with its places and its mark
pub record IsPreparedPart (project : List (List ℕ)) (number : ℕ) (target : Target) (part : PreparedPart) : Type 0 where
  pub places : ArePlaces project number target part.places
  pub mark : part.gone ≡ target.gone

-- a part for each target, in their order
pub record ArePrepared (project : List (List ℕ)) (targets : List Target) (parts : List PreparedPart) : Type 0 where
  pub count : length parts ≡ length targets
  pub each : (number : ℕ) (target : Target) (part : PreparedPart) → IsPart targets number target → slice_get parts number ≡ Some part
      → IsPreparedPart project number target part

-- the text of a journal, its places in a project, and its parts
pub record IsPrepared (project : List (List ℕ)) (journal : Journal) (prepared : Prepared) : Type 0 where
  pub is_journal : IsJournal Two journal
  pub text_is : prepared.text ≡ journal_text Two journal
  pub at_is : prepared.at ≡ journal_path project
  pub draft_is : prepared.draft ≡ draft_path project
  pub small : length prepared.text < 2 ^ 64
  pub parts_are : ArePrepared project journal.targets prepared.parts.items
