-- Faults of recovery, as refusals.
use Rattle.std.proofs.Common.{◌≡◌, ◌⊎◌, ℕ, List, false, Err, IsTrue, refl, sym, ap, inl, inr}
use Rattle.std.proofs.lemmas.Bool.{false≢true}
use Rattle.tree_dev.specs.Trees.{FileTree}
use Rattle.tree_dev.specs.Device.{Meaning, OfTold}
use Rattle.tree_dev.specs.Disk.{reading}
use Rattle.tree_dev.specs.Projects.{journal_path}
use Rattle.tree_dev.specs.declared.limits.LimitKind.{LimitKind}
use Rattle.tree_dev.specs.declared.limits.LimitKind.TheVariants.{FileBytes}
use Rattle.install_world.specs.AtOnce.{IsDueAtOnce, IsRefusedBy, IsStopped}
use Rattle.install_world.specs.Finishing.{StopsAt}
use Rattle.install_world.specs.InFlight.{HasJournal}
use Rattle.install_world.specs.declared.journal.Journal.{Journal}
use Rattle.install_world.specs.Recovery.{HasBadJournal, IsLong, IsOtherEntry, is_refused, is_vanished}
use Rattle.install_world.specs.declared.recovery_fault.Recovered.{Recovered}
use Rattle.install_world.specs.declared.recovery_fault.RecoverFault.{RecoverFault}
use Rattle.install_world.specs.declared.recovery_fault.RecoverFault.TheVariants as faults
use Rattle.run_answers.specs.Faults.{is_free}
use Rattle.install_commands.specs.Recovering.{AnswersDue, IsRecoveryRefused}
use Rattle.install_commands.specs.Refusals.{refusal_of_recovery}

-- Of what fits nothing is refused but for a fault of the device and want of memory.
pub free_or_refused : (fault : RecoverFault) → is_refused {X = Recovered} (Err fault) ≡ false → IsTrue (is_free (refusal_of_recovery fault))
free_or_refused (faults.BadJournal at) fits = absurd (false≢true (sym fits))
free_or_refused (faults.OtherEntry at) fits = absurd (false≢true (sym fits))
free_or_refused (faults.Vanished at) fits = absurd (false≢true (sym fits))
free_or_refused (faults.Limit kind) fits = absurd (false≢true (sym fits))
free_or_refused faults.DeviceFault fits = refl
free_or_refused faults.OutOfMemory fits = refl

-- What recovery refuses is told with its cause, and what is due before anything is done comes first.
module _ (project : List (List ℕ)) (t : FileTree) (now : Meaning) where
  abbrev IsToldFor : RecoverFault → Type 0
  IsToldFor fault = IsTrue (is_free (refusal_of_recovery fault)) ⊎ (IsRecoveryRefused project t now (refusal_of_recovery fault)
      × AnswersDue {X = List ℕ} project t (Err (refusal_of_recovery fault)))

  pub told_refusal : (fault : RecoverFault) → ((place : ℕ) → fault ≡ faults.BadJournal place → HasBadJournal project t place)
      → ((path : List (List ℕ)) → fault ≡ faults.OtherEntry path → OfTold now (IsOtherEntry project path))
      → ((path : List (List ℕ)) → fault ≡ faults.OtherEntry path → IsStopped project t path)
      → ((path : List (List ℕ)) → fault ≡ faults.OtherEntry path → (journal : Journal) → HasJournal project t journal → (number : ℕ) × StopsAt project journal number t (reading now.disks.now))
      → ((limit : LimitKind) → fault ≡ faults.Limit limit → (limit ≡ FileBytes (journal_path project)) × IsLong (journal_path project) t)
      → is_vanished {X = Recovered} (Err fault) ≡ false
      → ((due : RecoverFault) → IsDueAtOnce project t due → IsRefusedBy {X = Recovered} due (Err fault)) → IsToldFor fault
  told_refusal (faults.BadJournal at) bad other stopped stops limit there once = inr (bad at refl, λ due is. ap refusal_of_recovery (sym (once due is)))
  told_refusal (faults.OtherEntry at) bad other stopped stops limit there once =
      inr (record { stopped = stopped at refl; other = other at refl; stops = stops at refl }, λ due is. ap refusal_of_recovery (sym (once due is)))
  told_refusal (faults.Vanished at) bad other stopped stops limit there once = absurd (false≢true (sym there))
  told_refusal (faults.Limit kind) bad other stopped stops limit there once = inr (limit kind refl, λ due is. ap refusal_of_recovery (sym (once due is)))
  told_refusal faults.DeviceFault bad other stopped stops limit there once = inl refl
  told_refusal faults.OutOfMemory bad other stopped stops limit there once = inl refl
