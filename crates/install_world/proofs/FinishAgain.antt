-- Whatever recovery answers, run again it gives the same project.
use Rattle.std.proofs.Common.{◌≡◌, ℕ, Bool, true, List, [], ◌++◌, None, is_some, refl, sym, ap, ◌∙◌, subst, inl, inr, append-nil}
use Rattle.std.specs.Prelude.{◌⊎◌}
use Rattle.std.specs.FinMap as map
use Rattle.tree_dev.specs.Trees.{FileTree, IsTree}
use Rattle.tree_dev.specs.Disk.{IsOnDisk, reading}
use Rattle.tree_dev.specs.Device.{MayAdd, MaySettle, Meaning, OnlyRead}
use Rattle.tree_dev.specs.Projects.{bytes_of, is_project_part, is_within, journal_path, work_path}
use Rattle.tree_dev.specs.Steady.{EachImage}
use Rattle.tree_dev.specs.declared.change.Change.TheVariants as changes
use Rattle.tree_dev.proofs.Images.{reading_is_image}
use Rattle.tree_dev.proofs.Whole.{reading_on}
use Rattle.install_world.specs.Finishing.{FinishesAlike, KeepsFinished, Stands}
use Rattle.install_world.specs.InFlight.{AreAllDone, Files, HasJournal, IsFinishedProject, NoJournal, finished_by, staged_path}
use Rattle.install_world.specs.JournalText.{Says}
use Rattle.install_world.specs.Recovery.{IsRecovered}
use Rattle.install_world.specs.Removals.{OnlyRemoved}
use Rattle.install_world.specs.declared.journal.Journal.{Journal}
use Rattle.install_world.proofs.FinishSteps.{agreeing_alike, alike_on, finished_project}
use Rattle.install_world.proofs.FlightLaws.{all_done_is_own}
use Rattle.install_world.proofs.JournalEnds.{no_journal_left, parts_left}
use Rattle.install_world.proofs.OneJournal.{one_journal}
use Rattle.install_world.proofs.PartCleared.{barrier_keeps_reading, removed_else}
use Rattle.install_world.proofs.PartDone.{reads_same}
use Rattle.install_world.proofs.PartPaths.{journal_is_work, journal_not_staged, work_not_part}
use Rattle.install_world.proofs.RecoveryRules.{own_files}
use Rattle.install_world.proofs.RemovalRules.{file_removed, removed_itself, within_itself}

pub keeps_same : (project : List (List ℕ)) (t u : FileTree) → u ≡ t → KeepsFinished project t u
keeps_same project t u same = λ files finished. subst (λ (w : FileTree). IsFinishedProject project w files) (sym same) finished

pub keeps_read : (project : List (List ℕ)) (a b : Meaning) (t : FileTree) (failed : Bool) → IsOnDisk a.disks.now t → OnlyRead a b failed → KeepsFinished project t (reading b.disks.now)
keeps_read project a b t failed disk read = keeps_same project t (reading b.disks.now) (reads_same a b failed read ∙ sym disk.reads)

pub keeps_settled : (project : List (List ℕ)) (a b : Meaning) (t : FileTree) → IsOnDisk a.disks.now t → MaySettle a b → KeepsFinished project t (reading b.disks.now)
keeps_settled project a b t disk may = keeps_same project t (reading b.disks.now) (barrier_keeps_reading a b may ∙ sym disk.reads)

-- without a journal, removals in `.install` change nothing of it
pub keeps_removed : (project work : List (List ℕ)) (t u : FileTree) → work ≡ work_path project → NoJournal project t → OnlyRemoved work t u → KeepsFinished project t u
keeps_removed project work t u is none removed = λ files finished.
    let gone = subst (λ at. OnlyRemoved at t u) is removed in
    let after = no_journal_left project t u gone none in
    let has = parts_left project files t u gone (own_files project t files none finished) in
    record {
      kept = λ nothing path part. sym (has.each path part);
      finished = λ journal stands path part. let no = after.absent in let some = stands.there in absurd cc;
    }

-- where no journal stands any more, the project is the finished one
pub keeps_recovered : (project : List (List ℕ)) (files : Files) (u : FileTree) → IsRecovered project files u → IsFinishedProject project u files
keeps_recovered project files u has = record {
  kept = λ nothing path part. sym (has.has_files.each path part);
  finished = λ journal stands path part. let no = has.no_journal.absent in let some = stands.there in absurd cc;
}

pub keeps_ended : (project : List (List ℕ)) (journal : Journal) (t : FileTree) (d : Meaning) → HasJournal project t journal
    → EachImage d (IsRecovered project (finished_by project journal.targets t)) → KeepsFinished project t (reading d.disks.now)
keeps_ended project journal t d stands each = λ files finished.
    keeps_recovered project files (reading d.disks.now)
    (finished_project project journal files t (reading d.disks.now) stands finished (each (reading d.disks.now) (reading_is_image d.disks.now)))

-- while the journal stands
pub keeps_alike : (project : List (List ℕ)) (journal : Journal) (t u : FileTree) → Stands project journal t → FinishesAlike project journal t u → KeepsFinished project t u
keeps_alike project journal t u stands alike = λ files finished. record {
  kept = λ nothing path part.
      let no = nothing.absent in
      let some = alike.stands ∙ stands.has.there in
      absurd cc;
  finished = λ other has path part.
      let here = sym has.there ∙ alike.stands ∙ stands.has.there in
      let text : has.text ≡ stands.has.text = cc in
      let same : journal ≡ other = one_journal stands.has.text journal other stands.small stands.has.says (subst (λ bytes. Says bytes other) text has.says) in
      finished.finished journal stands.has path part ∙ sym (alike.each path part) ∙ ap (λ (j : Journal). finished_by project j.targets u path) same;
}

-- ---- the end of the journal

pub file_goes : (b d : Meaning) (q : List (List ℕ)) → MayAdd b d (changes.FileRemoved q) → OnlyRemoved q (reading b.disks.now) (reading d.disks.now)
file_goes b d q may = elim (reading_on b d (changes.FileRemoved q) may refl) [
  | inl same ↦ subst (OnlyRemoved q (reading b.disks.now)) (sym same) (removed_itself q (reading b.disks.now))
  | inr made ↦ subst (OnlyRemoved q (reading b.disks.now)) (sym made) (file_removed q q (reading b.disks.now) (within_itself q))
]

module _ (project at : List (List ℕ)) (journal : Journal) (t u w : FileTree) (is : at ≡ journal_path project) (stands : Stands project journal t)
    (alike : FinishesAlike project journal t u) (here : Stands project journal u) (tree : IsTree u) (done : AreAllDone project journal.targets u) (removed : OnlyRemoved at u w) where
  gone : OnlyRemoved (journal_path project) u w
  gone = subst (λ p. OnlyRemoved p u w) is removed

  part_same : (path : List (List ℕ)) → is_project_part project path ≡ true → map.get w path ≡ map.get u path
  part_same path part = removed_else (journal_path project) path u w gone (work_not_part project (journal_path project) path (journal_is_work project) part)

  staged_same : (number : ℕ) (below : List (List ℕ)) → map.get w (staged_path project number ++ below) ≡ map.get u (staged_path project number ++ below)
  staged_same number below = removed_else (journal_path project) (staged_path project number ++ below) u w gone (journal_not_staged project number below)

  -- it may still stand, or is gone
  pub keeps_to_the_end : KeepsFinished project t w
  keeps_to_the_end = by (gone.each (journal_path project))
    where
      by : (map.get w (journal_path project) ≡ map.get u (journal_path project)) ⊎ ((is_within (journal_path project) (journal_path project) ≡ true) × (map.get w (journal_path project) ≡ None))
          → KeepsFinished project t w
      by (inl same) =
          keeps_alike project journal t w stands
          (alike_on project journal t u w alike
          (agreeing_alike project journal u w same (λ path part. ap bytes_of (part_same path part))
          (λ number. ap (λ p. is_some (map.get w p)) (sym (append-nil (staged_path project number))) ∙ ap is_some (staged_same number [])
          ∙ ap (λ p. is_some (map.get u p)) (append-nil (staged_path project number)))
          (λ number below. ap bytes_of (staged_same number below))))
      by (inr none) = λ files finished. record {
        kept = λ nothing path part.
            finished.finished journal stands.has path part ∙ sym (alike.each path part) ∙ all_done_is_own project u journal here.has tree done path
            ∙ sym (ap bytes_of (part_same path part));
        finished = λ other has path part. let no = none.1 in let some = has.there in absurd cc;
      }
