-- What `errs` took before the answer of a run was told.
use Rattle.std.proofs.Common.{◌≡◌, ◌≢◌, ℕ, Bool, true, false, List, Option, Some, None, is_some, Result, Ok, Err, IsTrue, refl, sym, ap, subst, inl, inr}
use Rattle.std.proofs.lemmas.Bool.{false≢true}
use Rattle.tree_dev.specs.Sinks.{Taken}
use Rattle.tree_dev.specs.Trees.{FileTree}
use Rattle.composer_words.specs.declared.chosen.Chosen.{Chosen}
use Rattle.composer_words.specs.declared.chosen.Task.{Task}
use Rattle.composer_words.specs.declared.chosen.Task.TheVariants as tasks
use Rattle.run_answers.specs.Faults.{is_free}
use Rattle.run_answers.specs.declared.refusal.Refusal.{Refusal}
use Rattle.run_answers.specs.declared.refusal.Refusal.TheVariants as refusals
use Rattle.install_choice.specs.Warnings.{MayWarn}
use Rattle.install_choice.proofs.Warned.{takes_nothing}
use Rattle.composer_top.specs.Chosen.{chosen_in}
use Rattle.composer_top.specs.Outcome.{EndsByWords, Outputs, behind, refusal_of_choice, task_refusal, words_refusal}
use Rattle.composer_top.proofs.Performed.{not_memory}
use Rattle.composer_top.specs.Outcome.Install.{MayWarnChosen, MayWarnTask, WarnsChosen, WarnsTask}

-- ---- the answer and the status

warns_as_task : (t : FileTree) (project : List (List ℕ)) (task : Task) (free other : Bool) (before now : Taken) → (IsTrue free → IsTrue other) → WarnsTask t project task free before now
    → WarnsTask t project task other before now
warns_as_task t project (tasks.Lookup word) free other before now from same = same
warns_as_task t project tasks.Files free other before now from same = same
warns_as_task t project (tasks.Install ways) free other before now from (inl takes) = inl takes
warns_as_task t project (tasks.Install ways) free other before now from (inr left) = inr (from left.0, left.1)
warns_as_task t project (tasks.Update ways) free other before now from same = same
warns_as_task t project (tasks.DumpAutoload ways) free other before now from same = same
warns_as_task t project tasks.Check free other before now from same = same
warns_as_task t project tasks.Recover free other before now from same = same
warns_as_task t project (tasks.Demo number) free other before now from same = same

pub warns_as : (t : FileTree) (choice : Result Chosen Refusal) (free other : Bool) (before now : Taken) → (IsTrue free → IsTrue other) → WarnsChosen t choice free before now → WarnsChosen t choice other before now
warns_as t (Ok chosen) free other before now from warns = warns_as_task t chosen.project chosen.task free other before now from warns
warns_as t (Err refusal) free other before now from same = same

-- ---- no task was begun

none_warned_task : (t : FileTree) (project : List (List ℕ)) (task : Task) (sink : Taken) → WarnsTask t project task true sink sink
none_warned_task t project (tasks.Lookup word) sink = refl
none_warned_task t project tasks.Files sink = refl
none_warned_task t project (tasks.Install ways) sink = inr (refl, refl)
none_warned_task t project (tasks.Update ways) sink = refl
none_warned_task t project (tasks.DumpAutoload ways) sink = refl
none_warned_task t project tasks.Check sink = refl
none_warned_task t project tasks.Recover sink = refl
none_warned_task t project (tasks.Demo number) sink = refl

none_warned : (t : FileTree) (choice : Result Chosen Refusal) (sink : Taken) → WarnsChosen t choice true sink sink
none_warned t (Ok chosen) sink = none_warned_task t chosen.project chosen.task sink
none_warned t (Err refusal) sink = refl

pub not_warned : (t : FileTree) (choice : Result Chosen Refusal) (refusal : Refusal) (sink : Taken) → (refusal ≢ refusals.OutOfMemory → choice ≡ Err refusal) → WarnsChosen t choice (is_free refusal) sink sink
not_warned t choice refusal sink given = by (is_free refusal) refl
  where
    by : (free : Bool) → is_free refusal ≡ free → WarnsChosen t choice free sink sink
    by true e = none_warned t choice sink
    by false e = subst (λ (c : Result Chosen Refusal). WarnsChosen t c false sink sink) (sym (given (not_memory refusal e))) refl

may_say_nothing : (task : Task) (sink : Taken) → MayWarnTask task sink sink
may_say_nothing (tasks.Lookup word) sink = refl
may_say_nothing tasks.Files sink = refl
may_say_nothing (tasks.Install ways) sink = inl (inl (takes_nothing sink))
may_say_nothing (tasks.Update ways) sink = refl
may_say_nothing (tasks.DumpAutoload ways) sink = refl
may_say_nothing tasks.Check sink = refl
may_say_nothing tasks.Recover sink = refl
may_say_nothing (tasks.Demo number) sink = refl

pub nothing_said : (choice : Result Chosen Refusal) (sink : Taken) → MayWarnChosen choice sink sink
nothing_said (Ok chosen) sink = may_say_nothing chosen.task sink
nothing_said (Err refusal) sink = refl

-- ---- what the words refuse comes before all else

quiet_task : (task : Task) (refusal : Refusal) (before now : Taken) → task_refusal task ≡ Some refusal → MayWarnTask task before now → now ≡ before
quiet_task (tasks.Lookup word) refusal before now e same = same
quiet_task tasks.Files refusal before now e same = same
quiet_task (tasks.Install ways) refusal before now e warns = absurd (false≢true (ap is_some e))
quiet_task (tasks.Update ways) refusal before now e same = same
quiet_task (tasks.DumpAutoload ways) refusal before now e same = same
quiet_task tasks.Check refusal before now e same = same
quiet_task tasks.Recover refusal before now e same = same
quiet_task (tasks.Demo number) refusal before now e same = same

quiet_choice : (choice : Result Chosen Refusal) (refusal : Refusal) (before now : Taken) → refusal_of_choice choice ≡ Some refusal → MayWarnChosen choice before now → now ≡ before
quiet_choice (Ok chosen) refusal before now e warns = quiet_task chosen.task refusal before now e warns
quiet_choice (Err first) refusal before now e same = same

pub words_behind : (outputs : Outputs) (status : ℕ) (words : List (List ℕ)) (warned : Taken) → MayWarnChosen (chosen_in words) outputs.errs_before warned → EndsByWords (behind outputs warned) (words_refusal words) status
    → EndsByWords outputs (words_refusal words) status
unfolding words_refusal
words_behind outputs status words warned may ends = by (refusal_of_choice (chosen_in words)) refl ends
  where
    by : (early : Option Refusal) → refusal_of_choice (chosen_in words) ≡ early → EndsByWords (behind outputs warned) early status → EndsByWords outputs early status
    by None e other = other
    by (Some refusal) e ended =
        subst (λ (sink : Taken). EndsByWords (behind outputs sink) (Some refusal) status) (quiet_choice (chosen_in words) refusal outputs.errs_before warned e may) ended

-- nothing, or the warning, whatever the words are
may_warn_task : (task : Task) (before now : Taken) → MayWarnTask task before now → MayWarn before now
may_warn_task (tasks.Lookup word) before now same = subst (λ (sink : Taken). MayWarn before sink) (sym same) (inl (inl (takes_nothing before)))
may_warn_task tasks.Files before now same = subst (λ (sink : Taken). MayWarn before sink) (sym same) (inl (inl (takes_nothing before)))
may_warn_task (tasks.Install ways) before now may = may
may_warn_task (tasks.Update ways) before now same = subst (λ (sink : Taken). MayWarn before sink) (sym same) (inl (inl (takes_nothing before)))
may_warn_task (tasks.DumpAutoload ways) before now same = subst (λ (sink : Taken). MayWarn before sink) (sym same) (inl (inl (takes_nothing before)))
may_warn_task tasks.Check before now same = subst (λ (sink : Taken). MayWarn before sink) (sym same) (inl (inl (takes_nothing before)))
may_warn_task tasks.Recover before now same = subst (λ (sink : Taken). MayWarn before sink) (sym same) (inl (inl (takes_nothing before)))
may_warn_task (tasks.Demo number) before now same = subst (λ (sink : Taken). MayWarn before sink) (sym same) (inl (inl (takes_nothing before)))

pub may_warn : (choice : Result Chosen Refusal) (before now : Taken) → MayWarnChosen choice before now → MayWarn before now
may_warn (Ok chosen) before now may = may_warn_task chosen.task before now may
may_warn (Err refusal) before now same = subst (λ (sink : Taken). MayWarn before sink) (sym same) (inl (inl (takes_nothing before)))
