-- What a command answers, and how a run ends.
pub mod Tables
pub mod Lookup
pub mod Files
pub mod Check
pub mod Recover
pub mod Change
pub mod Dump
pub mod Install
use Rattle.std.specs.Prelude.{◌≡◌, ◌≢◌, ◌⊎◌, ◌≤◌, ℕ, nat_eq, List, [], ◌∷◌, ◌++◌, Bool, false, ◌||◌, IsTrue, Option, Some, None, Result, Ok, Err, MatchResult, IfErr, IfOk, IfSome}
use Rattle.std.specs.FinMap as map
use Rattle.path_name.specs.Given.{◌>>=◌}
use Rattle.path_name.specs.Paths.{path_text}
use Rattle.tree_dev.specs.Trees.{FileTree, IsTree}
use Rattle.tree_dev.specs.Device.{Meaning, OfTold, OnlyRead, Rose}
use Rattle.tree_dev.specs.Projects.{file_at, work_path}
use Rattle.tree_dev.specs.Steady.{EachImage, IsSteadily, Through}
use Rattle.tree_dev.specs.Sinks.{Taken, Takes, TakesPart}
use Rattle.composer_words.specs.declared.chosen.Chosen.{Chosen}
use Rattle.composer_words.specs.declared.chosen.Task.{Task}
use Rattle.composer_words.specs.declared.chosen.Task.TheVariants as tasks
use Rattle.run_answers.specs.Faults.{is_device_fault, is_of_tree}
use Rattle.run_answers.specs.Messages.{error_line}
use Rattle.run_answers.specs.Statuses.{status_of}
use Rattle.run_answers.specs.Steps.{TellsOne}
use Rattle.run_answers.specs.declared.refusal.Refusal.{Refusal}
use Rattle.run_answers.specs.declared.refusal.Refusal.TheVariants as refusals
use Rattle.install_world.specs.InFlight.{IsInFlight}
use Rattle.stage_job.specs.Written.{after_more}
use Rattle.install_commands.specs.Claiming.{claim_in, with_claim}
use Rattle.install_commands.specs.Commanded.{files_made, outcome_of_work}
use Rattle.install_commands.specs.Working.{IsInstalled, writes_of}
use Rattle.install_commands.specs.declared.work.Work.{Work}
use Rattle.composer_top.specs.Chosen.{chosen_in}
use Rattle.composer_top.specs.Outcome.Lookup.{named, lookup_outcome}
use Rattle.composer_top.specs.Outcome.Files.{files_outcome}
use Rattle.composer_top.specs.Outcome.Check.{check_outcome}
use Rattle.composer_top.specs.Outcome.Recover.{IsRecovery, Recovery}
use Rattle.composer_top.specs.Outcome.Change.{IsChange}
use Rattle.composer_top.specs.Outcome.Dump.{Dumped, IsDump}
use Rattle.composer_top.specs.Outcome.Install.{IsInstallWork, IsUpdateWork, Renews}
use Rattle.composer_top.specs.declared.report.Report.{Report}

-- ---- the outcome

abbrev pub path_line : List (List ℕ) → List ℕ
path_line path = path_text path ++ 10 ∷ []

-- lines that end well
abbrev pub plain : List ℕ → Report
plain lines = record { lines = lines; end = None }

-- What a task may be answered over a tree t, where it leaves what is told afterwards: the one outcome of a command that only
-- reads, or an outcome of a command that changes something. A command that is not built yet is Usage.
abbrev pub IsTaskOutcome : FileTree → Meaning → List (List ℕ) → Task → Result Report Refusal → Type 0
IsTaskOutcome t now project (tasks.Lookup word) answer = (lookup_outcome t project word >>= λ path. Ok (plain (path_line path))) ≡ answer
IsTaskOutcome t now project tasks.Files answer = (files_outcome t project >>= λ lines. Ok (plain lines)) ≡ answer
IsTaskOutcome t now project (tasks.Install ways) answer = IsChange (IsInstallWork project ways) t project answer
IsTaskOutcome t now project (tasks.Update ways) answer = IsChange (IsUpdateWork project ways) t project answer
IsTaskOutcome t now project (tasks.DumpAutoload ways) answer = IsDump t project ways answer
IsTaskOutcome t now project tasks.Check answer = check_outcome t project ≡ answer
IsTaskOutcome t now project tasks.Recover answer = IsRecovery t now project answer
IsTaskOutcome t now project (tasks.Demo number) answer = Err refusals.Usage ≡ answer

abbrev pub IsChosenOutcome : FileTree → Meaning → Result Chosen Refusal → Result Report Refusal → Type 0
IsChosenOutcome t now (Ok chosen) answer = IsTaskOutcome t now chosen.project chosen.task answer
IsChosenOutcome t now (Err refusal) answer = Err refusal ≡ answer

-- what the words may be answered over a tree t, and with what they leave
abbrev pub IsOutcome : FileTree → Meaning → List (List ℕ) → Result Report Refusal → Type 0
IsOutcome t now words answer = IsChosenOutcome t now (chosen_in words) answer

-- ---- what becomes of the tree

-- What a task does, by its answer: it only reads, unless it recovers, or changes the project.
abbrev pub Performs : List (List ℕ) → Task → Meaning → Meaning → Result Report Refusal → Type 0
Performs project (tasks.Lookup word) before now answer = OnlyRead before now (is_device_fault answer)
Performs project tasks.Files before now answer = OnlyRead before now (is_device_fault answer)
Performs project (tasks.Install ways) before now answer = Renews (IsInstallWork project ways) project before now answer
Performs project (tasks.Update ways) before now answer = Renews (IsUpdateWork project ways) project before now answer
Performs project (tasks.DumpAutoload ways) before now answer = Dumped project ways before now answer
Performs project tasks.Check before now answer = OnlyRead before now (is_device_fault answer)
Performs project tasks.Recover before now answer = Recovery project before now answer
Performs project (tasks.Demo number) before now answer = OnlyRead before now (is_device_fault answer)

abbrev pub PerformsChosen : Result Chosen Refusal → Meaning → Meaning → Result Report Refusal → Type 0
PerformsChosen (Ok chosen) before now answer = Performs chosen.project chosen.task before now answer
PerformsChosen (Err refusal) before now answer = OnlyRead before now (is_device_fault answer)

-- ---- what the words alone refuse

abbrev pub refusal_in : {X : Type 0} → Result X Refusal → Option Refusal
refusal_in (Ok x) = None
refusal_in (Err refusal) = Some refusal

abbrev pub task_refusal : Task → Option Refusal
task_refusal (tasks.Lookup word) = refusal_in (named word)
task_refusal tasks.Files = None
task_refusal (tasks.Install ways) = None
task_refusal (tasks.Update ways) = None
task_refusal (tasks.DumpAutoload ways) = None
task_refusal tasks.Check = None
task_refusal tasks.Recover = None
task_refusal (tasks.Demo number) = Some refusals.Usage

abbrev pub refusal_of_choice : Result Chosen Refusal → Option Refusal
refusal_of_choice (Ok chosen) = task_refusal chosen.task
refusal_of_choice (Err refusal) = Some refusal

unfoldable pub words_refusal : List (List ℕ) → Option Refusal
words_refusal words = refusal_of_choice (chosen_in words)

-- A report ends well, or with what was found: its status is then 1.
abbrev pub IsFinding : Report → Type 0
IsFinding report = IfSome report.end (λ refusal. status_of refusal ≡ 1)

-- What the words refuse is refused, unless memory ran out; else no such refusal comes.
abbrev pub KeepsToWords : {X : Type 0} → Option Refusal → Result X Refusal → Type 0
KeepsToWords None result = IfErr result (λ refusal. IsTrue (is_of_tree refusal))
KeepsToWords (Some refusal) result = (result ≡ Err refusal) ⊎ (result ≡ Err refusals.OutOfMemory)

-- ---- the reply

-- what a run prints and how it ends
pub record Reply : Type 0 where
  pub status : ℕ
  pub out : List ℕ
  pub errs : List ℕ

abbrev pub reply_to : List ℕ → Option Refusal → Reply
reply_to lines None = record { status = 0; out = lines; errs = [] }
reply_to lines (Some refusal) = record { status = status_of refusal; out = lines; errs = error_line refusal }

abbrev pub reply_of : Result Report Refusal → Reply
reply_of (Ok report) = reply_to report.lines report.end
reply_of (Err refusal) = reply_to [] (Some refusal)

-- A line was taken, or a prefix of it by a sink that failed.
abbrev pub TakesLine : Taken → Taken → List ℕ → Type 0
TakesLine before now line = Takes before now line ⊎ (TakesPart before now line × Rose before.faults now.faults)

-- what both outputs took, before a run and after it
pub record Outputs : Type 0 where
  pub out_before : Taken
  pub out_now : Taken
  pub errs_before : Taken
  pub errs_now : Taken

-- the same, where `errs` took something before the answer was told
abbrev pub behind : Outputs → Taken → Outputs
behind outputs warned = record { out_before = outputs.out_before; out_now = outputs.out_now; errs_before = warned; errs_now = outputs.errs_now }

-- `errs` took a warning of this kind, and behind it the run ended so.
abbrev pub EndsBehind : Outputs → (Taken → Taken → Type 0) → (Outputs → Type 0) → Type 0
EndsBehind outputs IsWarned EndsSo = (warned : Taken) × IsWarned outputs.errs_before warned × EndsSo (behind outputs warned)

-- The run replied: status and lines are those of the reply, whatever counts of faults rose.
pub record Replied (outputs : Outputs) (reply : Reply) (status : ℕ) : Type 0 where
  pub ended : status ≡ reply.status
  pub lines : Takes outputs.out_before outputs.out_now reply.out
  pub errors : TakesLine outputs.errs_before outputs.errs_now reply.errs

-- The output failed: it took a prefix of the reply's lines, of which there are some.
pub record OutputFailed (outputs : Outputs) (reply : Reply) (status : ℕ) : Type 0 where
  pub ended : status ≡ status_of refusals.SinkFault
  pub some : reply.out ≢ []
  pub rose : Rose outputs.out_before.faults outputs.out_now.faults
  pub lines : TakesPart outputs.out_before outputs.out_now reply.out
  pub errors : TakesLine outputs.errs_before outputs.errs_now (error_line refusals.SinkFault)

-- The run replied, or would have and the output failed.
abbrev pub Ended : Outputs → Reply → ℕ → Type 0
Ended outputs reply status = Replied outputs reply status ⊎ OutputFailed outputs reply status

abbrev pub Concluded : Outputs → Result Report Refusal → ℕ → Type 0
Concluded outputs answer status = Ended outputs (reply_of answer) status

-- A run ends with the reply to an outcome of this kind, or by a fault of its tree, or for want of memory.
abbrev pub Ends : Outputs → (Result Report Refusal → Type 0) → ℕ → Type 0
Ends outputs IsWanted status =
    ((outcome : Result Report Refusal) × IsWanted outcome × Concluded outputs outcome status)
    ⊎ (Concluded outputs (Err refusals.DeviceFault) status ⊎ Concluded outputs (Err refusals.OutOfMemory) status)

-- The work was done, whether its lines were taken or not.
abbrev pub is_done : ℕ → Bool
is_done status = nat_eq status 0 || nat_eq status 9

-- Nothing was refused: the work was done, or the device failed, or memory ran out.
abbrev pub is_unrefused : ℕ → Bool
is_unrefused status = is_done status || nat_eq status 8 || nat_eq status 10

-- A run ends with the reply to some answer.
abbrev pub EndsWithAnswer : Outputs → ℕ → Type 0
EndsWithAnswer outputs status = (answer : Result Report Refusal) × Concluded outputs answer status

-- What the words refuse is refused over every tree, unless memory ran out; else the status is another.
abbrev pub EndsByWords : Outputs → Option Refusal → ℕ → Type 0
EndsByWords outputs None status = status ≢ status_of refusals.Usage
EndsByWords outputs (Some refusal) status = Concluded outputs (Err refusal) status ⊎ Concluded outputs (Err refusals.OutOfMemory) status

-- ---- what a run does that changes a project

-- The device failed, or memory ran out.
abbrev pub is_free_status : ℕ → Bool
is_free_status status = nat_eq status 8 || nat_eq status 10

-- What a command does, by the status of its run, whose work in the claimed tree is this. Where t's project, t's surroundings and no
-- journal are all that a crash may leave at the start, a crash at any moment leaves a tree on the way from t's project to that
-- of the work, or one of both; where the run is done it is the project of the work, and where it was refused that of t.
pub record RunChanges (IsMade : FileTree → ℕ → Result Work Refusal → Type 0) (project : List (List ℕ)) (t : FileTree) (before now : Meaning) (status : ℕ) : Type 0 where
  pub made : Result Work Refusal
  pub left : ℕ
  -- what was made under the claim, unless the device failed or memory ran out
  pub is_made : claim_in t project ≡ Ok tt → TellsOne (λ work. work) (IsMade (with_claim project t) left) made
  -- work is made under the claim alone
  pub held : IfOk made (λ work. claim_in t project ≡ Ok tt)
  -- and the tree with it was told, which is one
  pub tree : IfOk made (λ work. IsTree (with_claim project t))
  -- a run that is done had lines
  pub done : IsTrue (is_done status) → (lines : List ℕ) × (outcome_of_work project t left made ≡ Ok lines)
  pub through : EachImage before (IsSteadily project t) → Through before now (IsInFlight project t (file_at t) (files_made project t left made))
  pub settled : IsTrue (is_done status) → EachImage before (IsSteadily project t) → EachImage now (IsInstalled project t (files_made project t left made))
  pub refused : is_unrefused status ≡ false → EachImage before (IsSteadily project t) → EachImage now (IsInstalled project t (file_at t))
  -- In the tree that is told they stand so whatever a crash may leave at the start.
  pub new_stands : IsTrue (is_done status) → OfTold now (IsInstalled project t (files_made project t left made))
  pub old_stands : claim_in t project ≡ Ok tt → is_unrefused status ≡ false → OfTold now (IsInstalled project t (file_at t))
  -- the claim is gone where there was one, and nothing was changed where there was none
  pub released : claim_in t project ≡ Ok tt → is_free_status status ≡ false → OfTold now (λ u. map.get u (work_path project) ≡ None)
  pub unclaimed : (refusal : Refusal) → claim_in t project ≡ Err refusal → is_free_status status ≡ false → now.told ≡ before.told
  -- at most one file is written for each that the parts of the work put, and one for the journal
  pub writes : now.writes ≤ after_more before.writes (writes_of (with_claim project t) made)
