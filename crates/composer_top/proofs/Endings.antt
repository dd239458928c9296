-- How a run ends, by what its answer is.
use Rattle.std.proofs.Common.{◌≡◌, ◌≢◌, ◌⊎◌, ℕ, Bool, true, false, List, Option, Some, None, Result, Ok, Err, IsTrue, refl, sym, ap, subst, ◌∙◌, inl, inr, arith}
use Rattle.std.specs.Prelude.{not, ◌||◌, nat_eq, ◌≤◌, IfErr, IfOk, IfSome, is_ok}
use Rattle.std.proofs.lemmas.Bool.{false≢true, eq-eqb}
use Rattle.path_name.proofs.Joining.{both_true}
use Rattle.tree_dev.specs.Device.{Meaning, OnlyRead, Rose}
use Rattle.run_answers.specs.Faults.{is_free, is_device_fault}
use Rattle.run_answers.specs.Statuses.{status_of}
use Rattle.run_answers.specs.declared.refusal.NamedFile.TheVariants as named_files
use Rattle.run_answers.specs.declared.refusal.Refusal.{Refusal}
use Rattle.run_answers.specs.declared.refusal.Refusal.TheVariants as refusals
use Rattle.composer_words.specs.declared.chosen.Chosen.{Chosen}
use Rattle.composer_words.specs.declared.chosen.Task.{Task}
use Rattle.composer_words.specs.declared.chosen.Task.TheVariants as tasks
use Rattle.composer_words.specs.declared.fault.WordsFault.{WordsFault}
use Rattle.composer_words.specs.declared.fault.WordsFault.TheVariants as words_faults
use Rattle.class_lookup.specs.declared.fault.LookupFault.{LookupFault}
use Rattle.class_lookup.specs.declared.fault.LookupFault.TheVariants as lookups
use Rattle.class_lookup.specs.ClassNames.{class_name_of}
use Rattle.composer_words.specs.Words.{command_of}
use Rattle.composer_top.specs.Chosen.{or_refused}
use Rattle.composer_top.specs.Outcome.Lookup as looking
use Rattle.run_answers.specs.Steps.{TellsOne, is_free_result}
use Rattle.composer_top.proofs.Changing.{IsRefusedBy}
use Rattle.install_commands.specs.Recovering.{is_unread}
use Rattle.composer_top.specs.Outcome.{KeepsToWords, Outputs, Concluded, Ends, EndsByWords, EndsWithAnswer, IsFinding, is_done, is_free_status, is_unrefused, reply_to, refusal_in, task_refusal, refusal_of_choice, words_refusal}
use Rattle.composer_top.specs.declared.report.Report.{Report}

-- what a run ends with: its answer, or want of memory
abbrev pub Told : Outputs → Result Report Refusal → ℕ → Type 0
Told outputs answer status = Concluded outputs answer status ⊎ Concluded outputs (Err refusals.OutOfMemory) status

-- ---- free refusals

abbrev FreeOf : Refusal → Type 0
FreeOf refusal = (refusal ≡ refusals.DeviceFault) ⊎ (refusal ≡ refusals.OutOfMemory)

pub free_of : (refusal : Refusal) → is_free refusal ≡ true → FreeOf refusal
free_of refusals.DeviceFault free = inl refl
free_of refusals.OutOfMemory free = inr refl
free_of refusals.Usage free = absurd (false≢true free)
free_of refusals.BadName free = absurd (false≢true free)
free_of refusals.Nothing free = absurd (false≢true free)
free_of refusals.NoManifest free = absurd (false≢true free)
free_of refusals.NoLock free = absurd (false≢true free)
free_of refusals.NoTables free = absurd (false≢true free)
free_of (refusals.BadDocument named_files.Manifest fault) free = absurd (false≢true free)
free_of (refusals.BadDocument (named_files.Member path) fault) free = absurd (false≢true free)
free_of (refusals.BadDocument named_files.Lock fault) free = absurd (false≢true free)
free_of (refusals.BadDocument named_files.Installed fault) free = absurd (false≢true free)
free_of (refusals.NotOffered file pointer) free = absurd (false≢true free)
free_of refusals.NoPlan free = absurd (false≢true free)
free_of (refusals.LockUnmet rule) free = absurd (false≢true free)
free_of (refusals.Breaks rule) free = absurd (false≢true free)
free_of refusals.Unfinished free = absurd (false≢true free)
free_of refusals.Pending free = absurd (false≢true free)
free_of refusals.Changed free = absurd (false≢true free)
free_of refusals.SinkFault free = absurd (false≢true free)
free_of (refusals.BadJournal at) free = absurd (false≢true free)
free_of (refusals.BadTables table at) free = absurd (false≢true free)
free_of (refusals.Limit limit) free = absurd (false≢true free)
free_of (refusals.MissingPath text) free = absurd (false≢true free)
free_of (refusals.ClassmapMissing path) free = absurd (false≢true free)
free_of (refusals.OtherEntry path) free = absurd (false≢true free)
free_of (refusals.Vanished place) free = absurd (false≢true free)

module _ (outputs : Outputs) (status : ℕ) where
  by_free : (refusal : Refusal) (IsWanted : Result Report Refusal → Type 0) → FreeOf refusal → Concluded outputs (Err refusal) status → Ends outputs IsWanted status
  by_free refusal IsWanted (inl device) x = inr (inl (subst (λ r. Concluded outputs (Err r) status) device x))
  by_free refusal IsWanted (inr memory) x = inr (inr (subst (λ r. Concluded outputs (Err r) status) memory x))

  -- the end of a run whose answer tells an outcome
  pub told_ends : (answer : Result Report Refusal) (IsWanted : Result Report Refusal → Type 0) → TellsOne (λ report. report) IsWanted answer → Told outputs answer status
      → Ends outputs IsWanted status
  told_ends (Ok report) IsWanted is (inl x) = inl (Ok report, is, x)
  told_ends (Err refusal) IsWanted (inr is) (inl x) = inl (Err refusal, is, x)
  told_ends (Err refusal) IsWanted (inl free) (inl x) = by_free refusal IsWanted (free_of refusal free) x
  told_ends answer IsWanted tells (inr y) = inr (inr y)

  pub some_answer : (answer : Result Report Refusal) → Told outputs answer status → EndsWithAnswer outputs status
  some_answer answer (inl x) = (answer, x)
  some_answer answer (inr y) = (Err refusals.OutOfMemory, y)

-- ---- statuses

abbrev status_in : Result Report Refusal → ℕ
status_in (Ok report) = 0
status_in (Err refusal) = status_of refusal

not_so : (b : Bool) → not b ≡ true → b ≡ false
not_so true e = absurd (false≢true e)
not_so false e = refl

-- the status with which an answer ends: 0, or 1 with what was found, or that of the refusal
abbrev HasStatus : Result Report Refusal → ℕ → Type 0
HasStatus (Ok report) status = status ≤ 1
HasStatus (Err refusal) status = status ≡ status_of refusal

at_most_one : (lines : List ℕ) (end : Option Refusal) (status : ℕ) → IfSome end (λ refusal. status_of refusal ≡ 1) → status ≡ (reply_to lines end).status → status ≤ 1
at_most_one lines None status finding e = omega (arith, e)
at_most_one lines (Some refusal) status finding e = omega (arith, e, finding)

-- The status is that of the answer, or that of want of memory, or the output failed, which had lines of the answer to take.
pub data Source (outputs : Outputs) (answer : Result Report Refusal) (status : ℕ) : Type 0 where
  own : HasStatus answer status → Source outputs answer status
  no_memory : status ≡ 10 → Source outputs answer status
  no_output : status ≡ 9 → Rose outputs.out_before.faults outputs.out_now.faults → IsTrue (is_ok answer) → Source outputs answer status

module _ (outputs : Outputs) (status : ℕ) where
  pub source : (answer : Result Report Refusal) → IfOk answer IsFinding → Told outputs answer status → Source outputs answer status
  source (Ok report) finding (inl (inl replied)) = own (at_most_one report.lines report.end status finding replied.ended)
  source (Ok report) finding (inl (inr failed)) = no_output failed.ended failed.rose refl
  source (Ok report) finding (inr (inl replied)) = no_memory replied.ended
  source (Ok report) finding (inr (inr failed)) = no_output failed.ended failed.rose refl
  source (Err refusal) finding (inl (inl replied)) = own replied.ended
  source (Err refusal) finding (inl (inr failed)) = absurd (failed.some refl)
  source (Err refusal) finding (inr (inl replied)) = no_memory replied.ended
  source (Err refusal) finding (inr (inr failed)) = absurd (failed.some refl)

  -- the status of a fault of the device is that of the answer
  pub device_fault : (answer : Result Report Refusal) → Source outputs answer status → status ≡ 8 → is_device_fault answer ≡ true
  device_fault (Ok report) (own e) eight = absurd (omega (arith, e, eight))
  device_fault (Err refusal) (own e) eight = eq-eqb (status_of refusal) 8 (sym e ∙ eight)
  device_fault (Ok report) (no_memory e) eight = absurd (omega (arith, e, eight))
  device_fault (Err refusal) (no_memory e) eight = absurd (omega (arith, e, eight))
  device_fault (Ok report) (no_output e rose done) eight = absurd (omega (arith, e, eight))
  device_fault (Err refusal) (no_output e rose done) eight = absurd (omega (arith, e, eight))

  -- the statuses of a journal that could not be read are that of the answer
  pub unread : (answer : Result Report Refusal) → Source outputs answer status → (status ≡ 11) ⊎ (status ≡ 12) → is_unread answer ≡ true
  unread (Ok report) (own e) (inl eleven) = absurd (omega (arith, e, eleven))
  unread (Ok report) (own e) (inr twelve) = absurd (omega (arith, e, twelve))
  unread (Err refusal) (own e) (inl eleven) = ap (λ n. nat_eq n 11 || nat_eq n 12) (sym e ∙ eleven)
  unread (Err refusal) (own e) (inr twelve) = ap (λ n. nat_eq n 11 || nat_eq n 12) (sym e ∙ twelve)
  unread answer (no_memory e) (inl eleven) = absurd (omega (arith, e, eleven))
  unread answer (no_memory e) (inr twelve) = absurd (omega (arith, e, twelve))
  unread answer (no_output e rose done) (inl eleven) = absurd (omega (arith, e, eleven))
  unread answer (no_output e rose done) (inr twelve) = absurd (omega (arith, e, twelve))

-- a reading, of which less or nothing else is said of its last call
pub read_as : {before now : Meaning} {failed other : Bool} → OnlyRead before now failed → (IsTrue other → IsTrue failed) → OnlyRead before now other
read_as read from = record { told = read.told; faults = read.faults; writes = read.writes; disks = read.disks; cause = λ t. read.cause (from t) }

-- ---- what the words refuse

-- a refusal, if there is one, is for the words or for want of memory, and the output did not fail
abbrev is_early : Option Refusal → Bool
is_early None = true
is_early (Some refusal) = not (nat_eq (status_of refusal) 9)

early_name : (x : Result (List ℕ) LookupFault) → is_early (refusal_in (looking.or_refused x)) ≡ true
early_name (Ok name) = refl
early_name (Err lookups.BadName) = refl
early_name (Err lookups.DeviceFault) = refl
early_name (Err lookups.OutOfMemory) = refl

early_task : (task : Task) → is_early (task_refusal task) ≡ true
early_task (tasks.Lookup word) = early_name (class_name_of word)
early_task tasks.Files = refl
early_task (tasks.Install ways) = refl
early_task (tasks.Update ways) = refl
early_task (tasks.DumpAutoload ways) = refl
early_task tasks.Check = refl
early_task tasks.Recover = refl
early_task (tasks.Demo number) = refl

early_choice : (x : Result Chosen WordsFault) → is_early (refusal_of_choice (or_refused x)) ≡ true
early_choice (Ok chosen) = early_task chosen.task
early_choice (Err words_faults.Usage) = refl
early_choice (Err words_faults.OutOfMemory) = refl

pub early_words : (words : List (List ℕ)) → is_early (words_refusal words) ≡ true
unfolding words_refusal
early_words words = early_choice (command_of words)

not_output : (early : Option Refusal) (refusal : Refusal) → is_early early ≡ true → KeepsToWords {X = Report} early (Err refusal) → nat_eq (status_of refusal) 9 ≡ false
not_output None refusal ok keeps = not_so (nat_eq (status_of refusal) 9) (both_true (not (nat_eq (status_of refusal) 2)) (not (nat_eq (status_of refusal) 9)) keeps).1
not_output (Some first) refusal ok (inl same) = ap (λ (a : Result Report Refusal). nat_eq (status_in a) 9) same ∙ not_so (nat_eq (status_of first) 9) ok
not_output (Some first) refusal ok (inr memory) = ap (λ (a : Result Report Refusal). nat_eq (status_in a) 9) memory

neither : (one other : Bool) → one ≡ false → other ≡ false → (one || other) ≡ false
neither one other e f = ap (λ b. b || other) e ∙ f

-- no refusal ends with 0
never_zero : (refusal : Refusal) → nat_eq (status_of refusal) 0 ≡ false
never_zero refusals.DeviceFault = refl
never_zero refusals.OutOfMemory = refl
never_zero refusals.Usage = refl
never_zero refusals.BadName = refl
never_zero refusals.Nothing = refl
never_zero refusals.NoManifest = refl
never_zero refusals.NoLock = refl
never_zero refusals.NoTables = refl
never_zero (refusals.BadDocument named_files.Manifest fault) = refl
never_zero (refusals.BadDocument (named_files.Member path) fault) = refl
never_zero (refusals.BadDocument named_files.Lock fault) = refl
never_zero (refusals.BadDocument named_files.Installed fault) = refl
never_zero (refusals.NotOffered file pointer) = refl
never_zero refusals.NoPlan = refl
never_zero (refusals.LockUnmet rule) = refl
never_zero (refusals.Breaks rule) = refl
never_zero refusals.Unfinished = refl
never_zero refusals.Pending = refl
never_zero refusals.Changed = refl
never_zero refusals.SinkFault = refl
never_zero (refusals.BadJournal at) = refl
never_zero (refusals.BadTables table at) = refl
never_zero (refusals.Limit limit) = refl
never_zero (refusals.MissingPath text) = refl
never_zero (refusals.ClassmapMissing path) = refl
never_zero (refusals.OtherEntry path) = refl
never_zero (refusals.Vanished place) = refl

module _ (outputs : Outputs) (status : ℕ) where
  output_rose : (early : Option Refusal) (answer : Result Report Refusal) → is_early early ≡ true → KeepsToWords early answer → Source outputs answer status → status ≡ 9 → Rose outputs.out_before.faults outputs.out_now.faults
  output_rose early (Ok report) ok keeps (own e) nine = absurd (omega (arith, e, nine))
  output_rose early (Err refusal) ok keeps (own e) nine = absurd (false≢true (sym (not_output early refusal ok keeps) ∙ eq-eqb (status_of refusal) 9 (sym e ∙ nine)))
  output_rose early (Ok report) ok keeps (no_memory e) nine = absurd (omega (arith, e, nine))
  output_rose early (Err refusal) ok keeps (no_memory e) nine = absurd (omega (arith, e, nine))
  output_rose early (Ok report) ok keeps (no_output e rose done) nine = rose
  output_rose early (Err refusal) ok keeps (no_output e rose done) nine = rose

  pub output_fault : (words : List (List ℕ)) (answer : Result Report Refusal) → KeepsToWords (words_refusal words) answer → Source outputs answer status → status ≡ 9 → Rose outputs.out_before.faults outputs.out_now.faults
  output_fault words answer keeps = output_rose (words_refusal words) answer (early_words words) keeps

  not_usage : (answer : Result Report Refusal) → KeepsToWords None answer → Source outputs answer status → status ≢ 2
  not_usage (Ok report) keeps (own e) two = omega (arith, e, two)
  not_usage (Err refusal) keeps (own e) two =
      let other = not_so (nat_eq (status_of refusal) 2) (both_true (not (nat_eq (status_of refusal) 2)) (not (nat_eq (status_of refusal) 9)) keeps).0 in
      false≢true (sym other ∙ eq-eqb (status_of refusal) 2 (sym e ∙ two))
  not_usage (Ok report) keeps (no_memory e) two = omega (arith, e, two)
  not_usage (Err refusal) keeps (no_memory e) two = omega (arith, e, two)
  not_usage (Ok report) keeps (no_output e rose done) two = omega (arith, e, two)
  not_usage (Err refusal) keeps (no_output e rose done) two = omega (arith, e, two)

  -- a run that is done has an answer
  pub done_is_answered : (words : List (List ℕ)) (answer : Result Report Refusal) → KeepsToWords (words_refusal words) answer → Source outputs answer status
      → is_done status ≡ true → is_ok answer ≡ true
  done_is_answered words (Ok report) keeps from done = refl
  done_is_answered words (Err refusal) keeps (own e) done =
      let other = not_output (words_refusal words) refusal (early_words words) keeps in
      absurd (false≢true (sym (neither (nat_eq (status_of refusal) 0) (nat_eq (status_of refusal) 9) (never_zero refusal) other) ∙ (ap is_done (sym e) ∙ done)))
  done_is_answered words (Err refusal) keeps (no_memory e) done = absurd (false≢true (ap is_done (sym e) ∙ done))
  done_is_answered words (Err refusal) keeps (no_output e rose answered) done = answered

  unrefused_free : (refusal : Refusal) → FreeOf refusal → status ≡ status_of refusal → is_unrefused status ≡ true
  unrefused_free refusal (inl device) e = ap is_unrefused (e ∙ ap status_of device)
  unrefused_free refusal (inr memory) e = ap is_unrefused (e ∙ ap status_of memory)

  -- a run whose answer is not refused
  pub unrefused : (answer : Result Report Refusal) → IfOk answer (λ report. report.end ≡ None) → IfErr answer (λ refusal. IsTrue (is_free refusal)) → Told outputs answer status
      → is_unrefused status ≡ true
  unrefused (Ok report) well free (inl (inl replied)) = ap is_unrefused (replied.ended ∙ ap (λ end. (reply_to report.lines end).status) well)
  unrefused (Ok report) well free (inl (inr failed)) = ap is_unrefused failed.ended
  unrefused (Err refusal) well free (inl (inl replied)) = unrefused_free refusal (free_of refusal free) replied.ended
  unrefused (Err refusal) well free (inl (inr failed)) = ap is_unrefused failed.ended
  unrefused answer well free (inr (inl replied)) = ap is_unrefused replied.ended
  unrefused answer well free (inr (inr failed)) = ap is_unrefused failed.ended

  -- a run that was neither done nor ended by the device or for want of memory has an answer that is refused
  pub refused_answer : (answer : Result Report Refusal) → IfOk answer (λ report. report.end ≡ None)
      → Told outputs answer status → is_unrefused status ≡ false → IsRefusedBy answer
  refused_answer (Ok report) well told other = absurd (false≢true (sym other ∙ unrefused (Ok report) well tt told))
  refused_answer (Err refusal) well told other = by (is_free refusal) refl
    where
      by : (free : Bool) → is_free refusal ≡ free → is_free refusal ≡ false
      by false e = e
      by true e = absurd (false≢true (sym other ∙ unrefused (Err refusal) tt e told))

  -- one that ended neither by the device nor for want of memory has an answer that is not free
  pub not_free_answer : (answer : Result Report Refusal) → Source outputs answer status → is_free_status status ≡ false → is_free_result answer ≡ false
  not_free_answer (Ok report) from other = refl
  not_free_answer (Err refusal) (own e) other = ap is_free_status (sym e) ∙ other
  not_free_answer (Err refusal) (no_memory e) other = absurd (false≢true (sym other ∙ ap is_free_status e))
  not_free_answer (Err refusal) (no_output e rose answered) other = absurd (false≢true answered)

  -- an answer that is free ends the run by the device or for want of memory
  pub free_answer : (answer : Result Report Refusal) → Source outputs answer status → IsTrue (is_free_result answer) → is_free_status status ≡ true
  free_answer (Ok report) from free = absurd (false≢true free)
  free_answer (Err refusal) (own e) free = ap is_free_status e ∙ free
  free_answer (Err refusal) (no_memory e) free = ap is_free_status e
  free_answer (Err refusal) (no_output e rose answered) free = absurd (false≢true answered)

  refused : (refusal : Refusal) (answer : Result Report Refusal) → KeepsToWords (Some refusal) answer → Told outputs answer status → Told outputs (Err refusal) status
  refused refusal answer (inl same) (inl x) = inl (subst (λ a. Concluded outputs a status) same x)
  refused refusal answer (inr memory) (inl x) = inr (subst (λ a. Concluded outputs a status) memory x)
  refused refusal answer keeps (inr y) = inr y

  pub ends_by_words : (early : Option Refusal) (answer : Result Report Refusal) → IfOk answer IsFinding → KeepsToWords early answer → Told outputs answer status → EndsByWords outputs early status
  ends_by_words None answer finding keeps told = not_usage answer keeps (source outputs status answer finding told)
  ends_by_words (Some refusal) answer finding keeps told = refused refusal answer keeps told
