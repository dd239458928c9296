-- The outcomes of `install` and `update`, what they do to the tree, and what `install` warns of.
use Rattle.std.specs.Prelude.{◌≡◌, ◌⊎◌, ℕ, List, Bool, IsTrue, None, Result, Ok, Err, IfOk}
use Rattle.tree_dev.specs.Trees.{FileTree}
use Rattle.tree_dev.specs.Device.{Meaning}
use Rattle.tree_dev.specs.Sinks.{Taken}
use Rattle.tree_dev.specs.declared.limits.TheConstants.{ENTRIES}
use Rattle.composer_words.specs.declared.chosen.Chosen.{Chosen}
use Rattle.composer_words.specs.declared.chosen.Task.{Task}
use Rattle.composer_words.specs.declared.chosen.Task.TheVariants as tasks
use Rattle.composer_words.specs.declared.chosen.Ways.{Ways}
use Rattle.run_answers.specs.declared.refusal.Refusal.{Refusal}
use Rattle.install_choice.specs.Warnings.{MayWarn, TakesText}
use Rattle.install_commands.specs.declared.work.Work.{Work}
use Rattle.install_packages.specs.Installing.{IsInstall, IsUpdate, install_warning}
use Rattle.composer_top.specs.Outcome.Change.{Changes}
use Rattle.composer_top.specs.declared.report.Report.{Report}

-- the works of the two commands, which may list all entries that a command may
abbrev pub IsInstallWork : List (List ℕ) → Ways → FileTree → ℕ → Result Work Refusal → Type 0
IsInstallWork project ways = IsInstall project ways ENTRIES

abbrev pub IsUpdateWork : List (List ℕ) → Ways → FileTree → ℕ → Result Work Refusal → Type 0
IsUpdateWork project ways = IsUpdate project ways ENTRIES

-- What a command does whose work is this, by its answer.
pub record Renews (IsMade : FileTree → ℕ → Result Work Refusal → Type 0) (project : List (List ℕ)) (before now : Meaning) (answer : Result Report Refusal) : Type 0 where
  pub changes : Changes IsMade project before now answer
  pub ends_well : IfOk answer (λ report. report.end ≡ None)

-- ---- what `errs` takes before the answer is told

-- over a tree t: what `install` warns of, which may be left out where the device failed or memory ran out; of other tasks nothing
abbrev pub WarnsTask : FileTree → List (List ℕ) → Task → Bool → Taken → Taken → Type 0
WarnsTask t project (tasks.Lookup word) free before now = now ≡ before
WarnsTask t project tasks.Files free before now = now ≡ before
WarnsTask t project (tasks.Install ways) free before now = TakesText before now (install_warning project t) ⊎ (IsTrue free × (now ≡ before))
WarnsTask t project (tasks.Update ways) free before now = now ≡ before
WarnsTask t project (tasks.DumpAutoload ways) free before now = now ≡ before
WarnsTask t project tasks.Check free before now = now ≡ before
WarnsTask t project tasks.Recover free before now = now ≡ before
WarnsTask t project (tasks.Demo number) free before now = now ≡ before

abbrev pub WarnsChosen : FileTree → Result Chosen Refusal → Bool → Taken → Taken → Type 0
WarnsChosen t (Ok chosen) free before now = WarnsTask t chosen.project chosen.task free before now
WarnsChosen t (Err refusal) free before now = now ≡ before

-- over every tree: nothing, or the warning of `install`
abbrev pub MayWarnTask : Task → Taken → Taken → Type 0
MayWarnTask (tasks.Lookup word) before now = now ≡ before
MayWarnTask tasks.Files before now = now ≡ before
MayWarnTask (tasks.Install ways) before now = MayWarn before now
MayWarnTask (tasks.Update ways) before now = now ≡ before
MayWarnTask (tasks.DumpAutoload ways) before now = now ≡ before
MayWarnTask tasks.Check before now = now ≡ before
MayWarnTask tasks.Recover before now = now ≡ before
MayWarnTask (tasks.Demo number) before now = now ≡ before

abbrev pub MayWarnChosen : Result Chosen Refusal → Taken → Taken → Type 0
MayWarnChosen (Ok chosen) before now = MayWarnTask chosen.task before now
MayWarnChosen (Err refusal) before now = now ≡ before
