-- Wherever the end of a journal is cut off, recovery gives the same project.
use Rattle.std.proofs.Common.{◌≡◌, ℕ, ◌<◌, ◌^◌, true, List, length, Some, refl, sym, ap, ◌∙◌, subst, inl, inr}
use Rattle.std.specs.FinMap as map
use Rattle.tree_dev.specs.Trees.{FileTree, IsTree}
use Rattle.tree_dev.specs.declared.entry.Entry.TheVariants as entries
use Rattle.tree_dev.specs.Changes.{changed}
use Rattle.tree_dev.specs.Disk.{IsOnDisk, reading}
use Rattle.tree_dev.specs.Device.{MayAdd, MaySettle, Meaning}
use Rattle.tree_dev.specs.Projects.{is_project_part, journal_path}
use Rattle.tree_dev.specs.Steady.{EachImage, IsWhole, Through}
use Rattle.tree_dev.specs.declared.change.Change.TheVariants as changes
use Rattle.tree_dev.proofs.Images.{reading_is_image}
use Rattle.tree_dev.proofs.Stretches.{through_ends, through_from, through_on}
use Rattle.tree_dev.proofs.Whole.{reading_on, through_then_barrier, through_then_change, whole_then_barrier}
use Rattle.install_world.specs.InFlight.{AreAllDone, Files, IsFinishedProject, IsInFlight}
use Rattle.install_world.specs.JournalText.{Says}
use Rattle.install_world.specs.declared.journal.Journal.{Journal}
use Rattle.install_world.specs.Moving.{IsOnWay, Way}
use Rattle.install_world.specs.Recovery.{IsEnding, IsNewProject}
use Rattle.install_world.proofs.FlightLaws.{finished_is_new, finishes_new}
use Rattle.install_world.proofs.JournalEnds.{journal_ends, through_weaker}
use Rattle.install_world.proofs.PartCleared.{barrier_keeps_reading}

-- on the way to the new project, and at it, recovery gives the new one
pub ending_is_finished : (way : Way) (files : Files) → ((path : List (List ℕ)) → is_project_part way.project path ≡ true → files path ≡ way.new path) → (left : FileTree) → IsEnding way left
    → IsFinishedProject way.project left files
ending_is_finished way files fits left (inl on) = record {
  kept = λ nothing path part. let no = nothing.absent in let some = on.stands.there in absurd cc;
  finished = λ journal has path part.
      fits path part ∙ sym (finishes_new way.project way.surroundings way.old way.new left journal has (on.small has.text has.there) on.flight path part);
}
ending_is_finished way files fits left (inr new) = record {
  kept = λ nothing path part. fits path part ∙ sym (new.files.each path part);
  finished = λ journal has path part. let no = new.no_journal.absent in let some = has.there in absurd cc;
}

module _ (way : Way) (a b : Meaning) (t : FileTree) (on_disk : IsOnDisk a.disks.now t) (settles : MaySettle a b) where
  pub still_ending : EachImage a (IsOnWay way) → Through a b (IsEnding way)
  still_ending each = through_then_barrier (IsEnding way) a a b settles (through_from (IsEnding way) a (λ left image. inl (each left image)))

  reads : reading b.disks.now ≡ t
  reads = barrier_keeps_reading a b settles ∙ sym on_disk.reads

  pub ends_on_the_way : (d : Meaning) (journal : List (List ℕ)) → MayAdd b d (changes.FileRemoved journal) → IsTree t → IsWhole a.disks.now
      → journal ≡ journal_path way.project → AreAllDone way.project way.journal.targets t → EachImage a (IsOnWay way) → Through a d (IsEnding way)
  ends_on_the_way d journal may tree whole is done each =
      through_then_change (IsEnding way) a b d (changes.FileRemoved journal) may refl (whole_then_barrier a b settles whole)
      (elim (reading_on b d (changes.FileRemoved journal) may refl) [
        | inl same ↦ subst (IsEnding way) (sym (same ∙ reads)) (inl on)
        | inr made ↦ subst (IsEnding way)
            (sym (made ∙ ap (λ (u : FileTree). changed u (changes.FileRemoved journal)) reads ∙ ap (λ at. changed t (changes.FileRemoved at)) is))
            (inr (journal_ends way t on tree done))
      ])
      (still_ending each)
    where
      on : IsOnWay way t
      on = subst (IsOnWay way) (sym on_disk.reads) (each (reading a.disks.now) (reading_is_image a.disks.now))

-- moves on the way, and then its end
pub way_then_ends : (way : Way) (a b e : Meaning) → Through a b (IsOnWay way) → (EachImage b (IsOnWay way) → Through b e (IsEnding way)) → Through a e (IsEnding way)
way_then_ends way a b e run more =
    through_on (IsEnding way) a b e (through_weaker (IsOnWay way) (IsEnding way) a b (λ t on. inl on) run) (more (through_ends (IsOnWay way) a b run))

pub nothing_ends : (way : Way) (m : Meaning) → EachImage m (IsOnWay way) → Through m m (IsEnding way)
nothing_ends way m each = through_from (IsEnding way) m (λ left image. inl (each left image))

pub ends_finished : (way : Way) (files : Files) → ((path : List (List ℕ)) → is_project_part way.project path ≡ true → files path ≡ way.new path) → (a b : Meaning) → Through a b (IsEnding way)
    → Through a b (λ left. IsFinishedProject way.project left files)
ends_finished way files fits a b run = through_weaker (IsEnding way) (λ left. IsFinishedProject way.project left files) a b (ending_is_finished way files fits) run

pub new_is_ending : (way : Way) (t : FileTree) → IsNewProject way t → IsEnding way t
new_is_ending way t new = inr new

-- where a journal stands in flight, recovery gives the new project
pub ends_fit : (project : List (List ℕ)) (surroundings : FileTree) (old new files : Files) (t : FileTree) (journal : Journal) (text : List ℕ) → IsInFlight project surroundings old new t
    → map.get t (journal_path project) ≡ Some (entries.File text) → length text < 2 ^ 64 → Says text journal → IsFinishedProject project t files
    → (path : List (List ℕ)) → is_project_part project path ≡ true → files path ≡ new path
ends_fit project surroundings old new files t journal text flight there small says finished path part =
    finished_is_new project surroundings old new files t journal (record { text = text; there = there; says = says }) small flight finished path part
