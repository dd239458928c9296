-- A crash at any moment of a run, and recovery after it, leave the old project or the new one.
use Rattle.std.proofs.Common.{◌≡◌, ◌⊎◌, ℕ, Bool, true, List, [], ◌∷◌, ◌++◌, codes, length, Option, Some, None, is_some, Result, refl, sym, ap, subst, ◌∙◌, inl, inr, arith}
use Rattle.std.specs.Prelude.{◌≤◌, ◌<◌, ◌^◌, IsTrue}
use Rattle.std.specs.FinMap as map
use Rattle.tree_dev.specs.Trees.{FileTree, IsTree}
use Rattle.tree_dev.specs.Device.{Meaning}
use Rattle.tree_dev.specs.Disk.{reading}
use Rattle.tree_dev.specs.Projects.{file_at, is_project_part, journal_path, work_path}
use Rattle.tree_dev.specs.Steady.{EachImage, IsSteadily}
use Rattle.tree_dev.specs.declared.entry.Entry.{Entry}
use Rattle.tree_dev.specs.declared.entry.Entry.TheVariants.{File}
use Rattle.tree_dev.specs.declared.limits.TheConstants.{FILE_BYTES}
use Rattle.tree_dev.proofs.Carried.{free_below}
use Rattle.tree_dev.proofs.Images.{reading_is_image}
use Rattle.tree_dev.proofs.Stretches.{through_ends}
use Rattle.install_world.specs.InFlight.{Files, HasFiles, HasJournal, IsFinishedProject, IsInFlight, IsMoving, IsThere, NoJournal, finished_by}
use Rattle.install_world.specs.JournalText.{Says}
use Rattle.install_world.specs.Recovery.{CanBeFinished, IsReadable}
use Rattle.install_world.specs.declared.journal.Journal.{Journal}
use Rattle.install_world.proofs.OneJournal.{one_journal}
use Rattle.install_world.proofs.RecoveryRules.{at_is, work_under}
use Rattle.install_commands.specs.Commanded.{files_made}
use Rattle.install_commands.specs.declared.work.Work.{Work}
use Rattle.run_answers.specs.declared.refusal.Refusal.{Refusal}
use Rattle.composer_top.specs.Outcome.{RunChanges}
use Rattle.composer_top.specs.Recovered.{IsOldOrNew, IsRecoveredFrom}

-- ---- the journal that stands

no_journal_below : (project : List (List ℕ)) (u : FileTree) → IsTree u → map.get u (work_path project) ≡ None → map.get u (journal_path project) ≡ None
no_journal_below project u tree gone =
    ap (map.get u) (sym (at_is project (work_path project) (work_path project ++ codes "journal" ∷ []) refl refl)) ∙ free_below u (work_path project) tree (work_under project) gone (codes "journal" ∷ [])

same_bytes : (first second : List ℕ) → ◌≡◌ {A = Option Entry} (Some (File first)) (Some (File second)) → first ≡ second
same_bytes first second e = cc

there_not : (entry : Option Entry) → entry ≡ None → IsTrue (is_some entry) → ⊥
there_not None none there = absurd cc
there_not (Some entry) none there = absurd cc

-- a file that can be read is no longer than a file may be
short : (at : List (List ℕ)) (t : FileTree) (text : List ℕ) → IsReadable at t → map.get t at ≡ Some (File text) → length text < 2 ^ 64
short at t text readable there = by readable.either
  where
    by : (map.get t at ≡ None) ⊎ ((some : List ℕ) × (map.get t at ≡ Some (File some)) × (length some ≤ FILE_BYTES)) → length text < 2 ^ 64
    by (inl none) = absurd (let both : ◌≡◌ {A = Option Entry} None (Some (File text)) = sym none ∙ there in cc)
    by (inr (some, is, few)) =
        let same = ap length (same_bytes text some (sym there ∙ is)) in
        omega (arith, same, few)

module _ (project : List (List ℕ)) (t : FileTree) (journal : Journal) (stands : HasJournal project t journal) (few : length stands.text < 2 ^ 64) where
  same_journal : (other : Journal) → HasJournal project t other → journal ≡ other
  same_journal other has =
      one_journal stands.text journal other few stands.says
      (subst (λ (text : List ℕ). Says text other) (sym (same_bytes stands.text has.text (sym stands.there ∙ has.there))) has.says)

  -- the files that recovery leaves
  finished : IsFinishedProject project t (finished_by project journal.targets t)
  finished = record {
    kept = λ none. absurd (let both : ◌≡◌ {A = Option Entry} None (Some (File stands.text)) = sym none.absent ∙ stands.there in cc);
    finished = λ other has path part. ap (λ (one : Journal). finished_by project one.targets t path) (same_journal other has);
  }

-- ---- a run that crashed

module _ (IsMade : FileTree → ℕ → Result Work Refusal → Type 0) (project : List (List ℕ)) (t left u : FileTree) (before now begun ended : Meaning) (status : ℕ)
    (run : RunChanges IsMade project t before now status) (each : EachImage before (IsSteadily project t)) (after : IsRecoveredFrom project before now begun ended left u)
    (law : (surroundings : FileTree) (old new files : Files) (journal : Journal) (stands : HasJournal project left journal)
    → length stands.text < 2 ^ 64 → IsInFlight project surroundings old new left → IsFinishedProject project left files
    → (path : List (List ℕ)) → is_project_part project path ≡ true → files path ≡ new path) where
  abbrev new : Files
  new = files_made project t run.left run.made

  in_flight : IsInFlight project t (file_at t) new left
  in_flight = (run.through each).each left after.crash

  begins : EachImage begun (IsInFlight project t (file_at t) new)
  begins = λ image is. subst (IsInFlight project t (file_at t) new) (sym (after.alone image is)) in_flight

  still_in_flight : IsInFlight project t (file_at t) new u
  still_in_flight =
      subst (IsInFlight project t (file_at t) new) (sym after.reads)
      (through_ends (IsInFlight project t (file_at t) new) begun ended (after.recovers.through left after.told t (file_at t) new begins) (reading ended.disks.now) (reading_is_image ended.disks.now))

  gone : map.get u (work_path project) ≡ None
  gone = after.recovers.gone refl u after.tells

  can : CanBeFinished project left
  can = after.recovers.only refl left after.told

  done : (journal : Journal) → HasJournal project left journal → HasFiles project u new
  done journal stands =
      let few = short (journal_path project) left stands.text can.readable stands.there in
      let files = finished_by project journal.targets left in
      let is = finished project left journal stands few in
      let has = after.recovers.finished refl left after.told files is in
      record {
        each = λ path part.
            ap (λ (some : FileTree). file_at some path) after.reads ∙ has.each path part ∙ law t (file_at t) new files journal stands few in_flight is path part;
      }

  when_there : (NoJournal project left × (HasFiles project left (file_at t) ⊎ HasFiles project left new)) ⊎ IsMoving project (file_at t) new left → IsThere left (journal_path project) → HasFiles project u new
  when_there (inl still) there = absurd (there_not (map.get left (journal_path project)) still.0.absent there)
  when_there (inr moving) there = done moving.journal moving.stands

  one_of : (NoJournal project u × (HasFiles project u (file_at t) ⊎ HasFiles project u new)) ⊎ IsMoving project (file_at t) new u → HasFiles project u (file_at t) ⊎ HasFiles project u new
  one_of (inl still) = still.1
  one_of (inr moving) = absurd (let both : ◌≡◌ {A = Option Entry} None (Some (File moving.stands.text)) = sym (no_journal_below project u after.tree gone) ∙ moving.stands.there in cc)

  pub recovered_run : IsOldOrNew project t left u (file_at t) new
  recovered_run = record { either = one_of still_in_flight.state; finished = when_there in_flight.state; outside = still_in_flight.outside; gone = gone }
