-- Where no device failed, a run ends with an outcome or for want of memory.
use Rattle.std.proofs.Common.{◌≡◌, ◌⊎◌, ℕ, Bool, List, Option, Some, None, Result, Ok, Err, refl, sym, ap, subst, ◌∙◌, inl, inr}
use Rattle.std.specs.Prelude.{IfSome}
use Rattle.tree_dev.specs.Trees.{FileTree}
use Rattle.tree_dev.specs.Device.{Meaning, Rose}
use Rattle.tree_dev.specs.Sinks.{Taken}
use Rattle.plan_rules.specs.declared.rule.Verdict.{Verdict}
use Rattle.plan_rules.specs.declared.rule.Verdict.TheVariants as verdicts
use Rattle.run_answers.specs.Statuses.{status_of}
use Rattle.run_answers.specs.declared.refusal.Refusal.{Refusal}
use Rattle.composer_words.specs.declared.chosen.Chosen.{Chosen}
use Rattle.composer_words.specs.declared.chosen.Task.{Task}
use Rattle.composer_words.specs.declared.chosen.Task.TheVariants as tasks
use Rattle.project_files.specs.ProjectLock.{pool_in, project_lock_in}
use Rattle.project_files.specs.ProjectManifest.{project_manifest_in}
use Rattle.install_choice.proofs.Steps.{both_ok, same_value}
use Rattle.composer_top.specs.Chosen.{chosen_in}
use Rattle.composer_top.specs.Completeness.{HasRun, IsStatusOf, NothingFailed, Replies}
use Rattle.composer_top.specs.Outcome.{Ends, IsChosenOutcome, IsFinding, IsOutcome, IsTaskOutcome, Outputs, behind, path_line, plain, reply_to}
use Rattle.composer_top.specs.Outcome.Check.{check_outcome, check_report, compared, lock_compared}
use Rattle.composer_top.specs.Outcome.Files.{files_outcome}
use Rattle.composer_top.specs.Outcome.Lookup.{lookup_outcome}
use Rattle.composer_top.specs.declared.report.Report.{Report}

module _ (t : FileTree) (before now : Meaning) (words : List (List ℕ)) (outputs : Outputs) (status : ℕ) where
  abbrev Answered : Type 0
  Answered = (status ≡ 10) ⊎ ((outcome : Result Report Refusal) × Replies t now words outputs status outcome)

  by_end : (warned : Taken) → (status ≡ 8 → Rose before.faults now.faults) → NothingFailed before now outputs → Ends (behind outputs warned) (IsOutcome t now words) status → Answered
  by_end warned device none (inl (outcome, is, inl replied)) = inr (outcome, record { is_outcome = is; ended = replied.ended; lines = replied.lines })
  by_end warned device none (inl (outcome, is, inr failed)) = absurd (none.out failed.rose)
  by_end warned device none (inr (inl (inl replied))) = absurd (none.tree (device replied.ended))
  by_end warned device none (inr (inl (inr failed))) = absurd (none.out failed.rose)
  by_end warned device none (inr (inr (inl replied))) = inl replied.ended
  by_end warned device none (inr (inr (inr failed))) = absurd (none.out failed.rose)

  pub answered : HasRun t before now words outputs status → NothingFailed before now outputs → Answered
  answered run none = by_end run.answer.0 run.device none run.answer.2

-- ---- what a report of an outcome ends with

ends_well : (report : Report) → report.end ≡ None → IsFinding report
ends_well report none = subst (λ (end : Option Refusal). IfSome end (λ refusal. status_of refusal ≡ 1)) (sym none) tt

is_plain : (lines : List ℕ) (report : Report) → ◌≡◌ {A = Result Report Refusal} (Ok (plain lines)) (Ok report) → IsFinding report
is_plain lines report e = ends_well report (ap (λ (one : Report). one.end) (sym (same_value (plain lines) report e)))

verdict_finds : (current : Bool) (verdict : Verdict) → IsFinding (check_report current verdict)
unfolding check_report
verdict_finds current verdicts.Meets = tt
verdict_finds current (verdicts.Breaks rule) = refl

module _ (t : FileTree) (project : List (List ℕ)) (report : Report) where
  check_finds : check_outcome t project ≡ Ok report → IsFinding report
  unfolding check_outcome lock_compared compared
  check_finds e =
      let manifest = both_ok (project_manifest_in t project) (lock_compared t project) report e in
      let lock = both_ok (project_lock_in t project) (compared project manifest.0) report manifest.2 in
      let pool = both_ok (pool_in manifest.0.root lock.0 project) _ report lock.2 in
      subst IsFinding (same_value _ report pool.2) (verdict_finds _ _)

  task_finds : (now : Meaning) (task : Task) → IsTaskOutcome t now project task (Ok report) → IsFinding report
  task_finds now (tasks.Lookup word) e =
      let path = both_ok (lookup_outcome t project word) (λ path. Ok (plain (path_line path))) report e in
      is_plain (path_line path.0) report path.2
  task_finds now tasks.Files e =
      let lines = both_ok (files_outcome t project) (λ lines. Ok (plain lines)) report e in
      is_plain lines.0 report lines.2
  task_finds now (tasks.Install ways) is = ends_well report is.ends_well
  task_finds now (tasks.Update ways) is = ends_well report is.ends_well
  task_finds now (tasks.DumpAutoload ways) is = ends_well report is.ends_well
  task_finds now tasks.Check e = check_finds e
  task_finds now tasks.Recover is = ends_well report is.1
  task_finds now (tasks.Demo number) e = absurd cc

outcome_finds : (t : FileTree) (now : Meaning) (choice : Result Chosen Refusal) (report : Report) → IsChosenOutcome t now choice (Ok report) → IsFinding report
outcome_finds t now (Ok chosen) report is = task_finds t chosen.project report now chosen.task is
outcome_finds t now (Err refusal) report e = absurd cc

status_is : (lines : List ℕ) (end : Option Refusal) (status : ℕ) → IfSome end (λ refusal. status_of refusal ≡ 1) → status ≡ (reply_to lines end).status → IsStatusOf end status
status_is lines None status finding e = e
status_is lines (Some refusal) status finding e = e ∙ finding

-- a report's status
pub reported : (t : FileTree) (now : Meaning) (words : List (List ℕ)) (outputs : Outputs) (status : ℕ) (report : Report) → Replies t now words outputs status (Ok report)
    → IsStatusOf report.end status
reported t now words outputs status report replies =
    status_is report.lines report.end status (outcome_finds t now (chosen_in words) report replies.is_outcome) replies.ended

-- ---- nothing is refused

module _ (t : FileTree) (before now : Meaning) (words : List (List ℕ)) (outputs : Outputs) (status : ℕ) (none : (refusal : Refusal) → IsOutcome t now words (Err refusal) → ⊥) where
  abbrev Done : Type 0
  Done = (status ≡ 10) ⊎ ((report : Report) × Replies t now words outputs status (Ok report))

  by_outcome : (outcome : Result Report Refusal) → Replies t now words outputs status outcome → Done
  by_outcome (Ok report) replies = inr (report, replies)
  by_outcome (Err refusal) replies = absurd (none refusal replies.is_outcome)

  by_answer : (status ≡ 10) ⊎ ((outcome : Result Report Refusal) × Replies t now words outputs status outcome) → Done
  by_answer (inl memory) = inl memory
  by_answer (inr (outcome, replies)) = by_outcome outcome replies

  pub unrefused : HasRun t before now words outputs status → NothingFailed before now outputs → Done
  unrefused run still = by_answer (answered t before now words outputs status run still)
