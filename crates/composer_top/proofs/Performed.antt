-- What a run does to the tree, by the words and the answer.
use Rattle.std.proofs.Common.{◌≡◌, ◌≢◌, ℕ, Bool, true, false, List, Some, Result, Ok, Err, IsTrue, refl, sym, ap, subst, ◌∙◌}
use Rattle.std.proofs.lemmas.Bool.{false≢true}
use Rattle.tree_dev.specs.Trees.{FileTree}
use Rattle.tree_dev.specs.Device.{Meaning, OnlyRead, Rose, only_read_refl}
use Rattle.tree_dev.specs.Disk.{reading}
use Rattle.tree_dev.proofs.Stretches.{through_from}
use Rattle.install_world.specs.InFlight.{IsFinishedProject, IsInFlight}
use Rattle.install_commands.specs.declared.work.Work.{Work}
use Rattle.install_commands.specs.Recovering.{Recovers}
use Rattle.run_answers.specs.Faults.{is_device_fault, is_free, is_of_device}
use Rattle.run_answers.specs.declared.refusal.Refusal.{Refusal}
use Rattle.run_answers.specs.declared.refusal.Refusal.TheVariants as refusals
use Rattle.composer_words.specs.declared.chosen.Chosen.{Chosen}
use Rattle.composer_words.specs.declared.chosen.Task.{Task}
use Rattle.composer_words.specs.declared.chosen.Task.TheVariants as tasks
use Rattle.composer_words.specs.declared.chosen.Ways.{Ways}
use Rattle.install_commands.proofs.WriteCounts.{none_written}
use Rattle.composer_top.specs.Chosen.{ChooseDump, ChooseInstall, ChooseRecovery, ChooseUpdate, chooses_reading, chosen_in, is_reading}
use Rattle.composer_top.specs.Outcome.{Performs, PerformsChosen}
use Rattle.composer_top.specs.Outcome.Dump.{Dumped, IsDumpWork}
use Rattle.composer_top.specs.Outcome.Install.{IsInstallWork, IsUpdateWork, Renews}
use Rattle.composer_top.specs.Outcome.Recover.{Recovery}
use Rattle.composer_top.proofs.Changing.{not_changed}
use Rattle.composer_top.specs.declared.report.Report.{Report}

-- ---- no command was begun

pub not_memory : (refusal : Refusal) → is_free refusal ≡ false → refusal ≢ refusals.OutOfMemory
not_memory refusal other same = false≢true (sym other ∙ ap is_free same)

module _ (choice : Result Chosen Refusal) (refusal : Refusal) (given : refusal ≢ refusals.OutOfMemory → choice ≡ Err refusal) where
  module _ (m : Meaning) (no_device : is_of_device refusal ≡ false) (reads : (t : FileTree) → m.told ≡ Some t → t ≡ reading m.disks.now) where
    stays : OnlyRead m m (is_of_device refusal)
    stays = subst (λ (failed : Bool). OnlyRead m m failed) (sym no_device) (only_read_refl m)

    not_recovered : (project : List (List ℕ)) → is_free refusal ≡ true → Recovery project m m (Err refusal)
    not_recovered project free = record {
      recovers = record {
        through = λ t told surroundings old new each. through_from (IsInFlight project surroundings old new) m each;
        again = λ t told files is. subst (λ (u : FileTree). IsFinishedProject project u files) (reads t told) is;
        ends = λ t told surroundings old new files each leads. through_from (λ (left : FileTree). IsFinishedProject project left files) m leads;
        only = λ done. absurd (false≢true done);
        finished = λ done. absurd (false≢true done);
        settled = λ done. absurd (false≢true done);
        gone = λ done. absurd (false≢true done);
      };
      ends_well = tt;
      unchanged = λ unread. only_read_refl m;
      fits = λ t told surroundings old new each can. free;
      device = λ failed. absurd (false≢true (sym no_device ∙ failed));
    }

    not_dumped : (project : List (List ℕ)) (ways : Ways) → is_free refusal ≡ true → Dumped project ways m m (Err refusal)
    not_dumped project ways free = record {
      changes = not_changed (IsDumpWork project ways) project m refusal free (λ failed. false≢true (sym no_device ∙ failed));
      ends_well = tt;
      few_writes = λ t told. none_written m.writes m.writes 8 refl;
    }

    not_renewed : (IsMade : FileTree → ℕ → Result Work Refusal → Type 0) (project : List (List ℕ)) → is_free refusal ≡ true → Renews IsMade project m m (Err refusal)
    not_renewed IsMade project free = record {
      changes = not_changed IsMade project m refusal free (λ failed. false≢true (sym no_device ∙ failed));
      ends_well = tt;
    }

    task_not_begun : (project : List (List ℕ)) (task : Task) → is_free refusal ≡ true → Performs project task m m (Err refusal)
    task_not_begun project (tasks.Lookup word) free = stays
    task_not_begun project tasks.Files free = stays
    task_not_begun project (tasks.Install ways) free = not_renewed (IsInstallWork project ways) project free
    task_not_begun project (tasks.Update ways) free = not_renewed (IsUpdateWork project ways) project free
    task_not_begun project (tasks.DumpAutoload ways) free = not_dumped project ways free
    task_not_begun project tasks.Check free = stays
    task_not_begun project tasks.Recover free = not_recovered project free
    task_not_begun project (tasks.Demo number) free = stays

    choice_not_begun : (c : Result Chosen Refusal) → is_free refusal ≡ true → PerformsChosen c m m (Err refusal)
    choice_not_begun (Ok chosen) free = task_not_begun chosen.project chosen.task free
    choice_not_begun (Err first) free = stays

    pub not_begun : PerformsChosen choice m m (Err refusal)
    not_begun = by (is_free refusal) refl
      where
        by : (free : Bool) → is_free refusal ≡ free → PerformsChosen choice m m (Err refusal)
        by true e = choice_not_begun choice e
        by false e = subst (λ (c : Result Chosen Refusal). PerformsChosen c m m (Err refusal)) (sym (given (not_memory refusal e))) stays

-- ---- what a command did

module _ (before now : Meaning) (answer : Result Report Refusal) where
  abbrev Reads : Type 0
  Reads = OnlyRead before now (is_device_fault answer)

  task_read : (project : List (List ℕ)) (task : Task) → is_reading task ≡ true → Performs project task before now answer → Reads
  task_read project (tasks.Lookup word) reads did = did
  task_read project tasks.Files reads did = did
  task_read project (tasks.Install ways) reads did = absurd (false≢true reads)
  task_read project (tasks.Update ways) reads did = absurd (false≢true reads)
  task_read project (tasks.DumpAutoload ways) reads did = absurd (false≢true reads)
  task_read project tasks.Check reads did = did
  task_read project tasks.Recover reads did = absurd (false≢true reads)
  task_read project (tasks.Demo number) reads did = did

  pub only_read : (choice : Result Chosen Refusal) → chooses_reading choice ≡ true → PerformsChosen choice before now answer → Reads
  only_read (Ok chosen) reads did = task_read chosen.project chosen.task reads did
  only_read (Err refusal) reads did = did

  task_rose : (project : List (List ℕ)) (task : Task) → Performs project task before now answer → is_device_fault answer ≡ true → Rose before.faults now.faults
  task_rose project (tasks.Lookup word) did failed = did.cause failed
  task_rose project tasks.Files did failed = did.cause failed
  task_rose project (tasks.Install ways) did failed = did.changes.device failed
  task_rose project (tasks.Update ways) did failed = did.changes.device failed
  task_rose project (tasks.DumpAutoload ways) did failed = did.changes.device failed
  task_rose project tasks.Check did failed = did.cause failed
  task_rose project tasks.Recover did failed = did.device failed
  task_rose project (tasks.Demo number) did failed = did.cause failed

  -- a device that failed counts it
  pub rose : (choice : Result Chosen Refusal) → PerformsChosen choice before now answer → is_device_fault answer ≡ true → Rose before.faults now.faults
  rose (Ok chosen) did failed = task_rose chosen.project chosen.task did failed
  rose (Err refusal) did failed = did.cause failed

  -- what a recovery did
  pub recovery : (words : List (List ℕ)) (project : List (List ℕ)) → ChooseRecovery words project → PerformsChosen (chosen_in words) before now answer
      → Recovery project before now answer
  recovery words project chooses did = subst (λ (c : Result Chosen Refusal). PerformsChosen c before now answer) chooses did

  -- what an install and an update did
  pub installed : (words : List (List ℕ)) (project : List (List ℕ)) (ways : Ways) → ChooseInstall words project ways → PerformsChosen (chosen_in words) before now answer
      → Renews (IsInstallWork project ways) project before now answer
  installed words project ways chooses did = subst (λ (c : Result Chosen Refusal). PerformsChosen c before now answer) chooses did

  pub updated : (words : List (List ℕ)) (project : List (List ℕ)) (ways : Ways) → ChooseUpdate words project ways → PerformsChosen (chosen_in words) before now answer
      → Renews (IsUpdateWork project ways) project before now answer
  updated words project ways chooses did = subst (λ (c : Result Chosen Refusal). PerformsChosen c before now answer) chooses did

  -- what a dump did
  pub dump : (words : List (List ℕ)) (project : List (List ℕ)) (ways : Ways) → ChooseDump words project ways → PerformsChosen (chosen_in words) before now answer
      → Dumped project ways before now answer
  dump words project ways chooses did = subst (λ (c : Result Chosen Refusal). PerformsChosen c before now answer) chooses did

-- a recovery of which less is said
pub recovers_as : (project : List (List ℕ)) (before now : Meaning) {done other : Bool} → Recovers project before now done → (IsTrue other → IsTrue done)
    → Recovers project before now other
recovers_as project before now recovers from = record {
  through = recovers.through;
  again = recovers.again;
  ends = recovers.ends;
  only = λ done. recovers.only (from done);
  finished = λ done. recovers.finished (from done);
  settled = λ done. recovers.settled (from done);
  gone = λ done. recovers.gone (from done);
}
