-- The outcome of `dump-autoload`, and what it does to the tree.
use Rattle.std.specs.Prelude.{◌≡◌, ◌≤◌, ℕ, List, None, Result, IfOk}
use Rattle.tree_dev.specs.Trees.{FileTree}
use Rattle.tree_dev.specs.Device.{Meaning, OfTold}
use Rattle.tree_dev.specs.declared.limits.TheConstants.{ENTRIES}
use Rattle.stage_job.specs.Written.{after_more}
use Rattle.composer_words.specs.declared.chosen.Ways.{Ways}
use Rattle.run_answers.specs.declared.refusal.Refusal.{Refusal}
use Rattle.install_commands.specs.declared.work.Work.{Work}
use Rattle.dump_command.specs.Dumping.{IsDumped}
use Rattle.composer_top.specs.Outcome.Change.{Changes, IsChange}
use Rattle.composer_top.specs.declared.report.Report.{Report}

-- the work of a dump, which may list all entries that a command may
abbrev pub IsDumpWork : List (List ℕ) → Ways → FileTree → ℕ → Result Work Refusal → Type 0
IsDumpWork project ways = IsDumped project ways ENTRIES

-- What `dump-autoload` may answer over a tree t.
abbrev pub IsDump : FileTree → List (List ℕ) → Ways → Result Report Refusal → Type 0
IsDump t project ways answer = IsChange (IsDumpWork project ways) t project answer

-- at most eight files were written: seven in the project, and the journal
abbrev pub FewWrites : Meaning → Meaning → Type 0
FewWrites before now = OfTold before (λ _. now.writes ≤ after_more before.writes 8)

-- What a dump does, by its answer.
pub record Dumped (project : List (List ℕ)) (ways : Ways) (before now : Meaning) (answer : Result Report Refusal) : Type 0 where
  pub changes : Changes (IsDumpWork project ways) project before now answer
  pub ends_well : IfOk answer (λ report. report.end ≡ None)
  pub few_writes : FewWrites before now
