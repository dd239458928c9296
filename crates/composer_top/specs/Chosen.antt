-- The command that words choose.
use Rattle.std.specs.Prelude.{◌≡◌, ℕ, List, Bool, true, false, Result, Ok, Err}
use Rattle.composer_words.specs.Words.{command_of}
use Rattle.composer_words.specs.declared.chosen.Chosen.{Chosen}
use Rattle.composer_words.specs.declared.chosen.Task.{Task}
use Rattle.composer_words.specs.declared.chosen.Task.TheVariants as tasks
use Rattle.composer_words.specs.declared.chosen.Ways.{Ways}
use Rattle.composer_words.specs.declared.fault.WordsFault.{WordsFault}
use Rattle.composer_words.specs.declared.fault.WordsFault.TheVariants as faults
use Rattle.run_answers.specs.declared.refusal.Refusal.{Refusal}
use Rattle.run_answers.specs.declared.refusal.Refusal.TheVariants as refusals

abbrev pub refusal_of_words : WordsFault → Refusal
refusal_of_words faults.Usage = refusals.Usage
refusal_of_words faults.OutOfMemory = refusals.OutOfMemory

abbrev pub or_refused : {X : Type 0} → Result X WordsFault → Result X Refusal
or_refused (Ok chosen) = Ok chosen
or_refused (Err fault) = Err (refusal_of_words fault)

abbrev pub chosen_in : List (List ℕ) → Result Chosen Refusal
chosen_in words = or_refused (command_of words)

-- A command that changes nothing: all but `install`, `update`, `dump-autoload` and `recover`. One that is not built yet is refused.
abbrev pub is_reading : Task → Bool
is_reading (tasks.Lookup word) = true
is_reading tasks.Files = true
is_reading (tasks.Install ways) = false
is_reading (tasks.Update ways) = false
is_reading (tasks.DumpAutoload ways) = false
is_reading tasks.Check = true
is_reading tasks.Recover = false
is_reading (tasks.Demo number) = true

abbrev pub chooses_reading : Result Chosen Refusal → Bool
chooses_reading (Ok chosen) = is_reading chosen.task
chooses_reading (Err refusal) = true

-- The words choose a command that changes nothing, or none.
abbrev pub only_reads : List (List ℕ) → Bool
only_reads words = chooses_reading (chosen_in words)

-- The words choose to recover this project.
abbrev pub ChooseRecovery : List (List ℕ) → List (List ℕ) → Type 0
ChooseRecovery words project = chosen_in words ≡ Ok (record { project = project; task = tasks.Recover })

-- The words choose to write the tables of this project anew, in these ways.
abbrev pub ChooseDump : List (List ℕ) → List (List ℕ) → Ways → Type 0
ChooseDump words project ways = chosen_in words ≡ Ok (record { project = project; task = tasks.DumpAutoload ways })

-- The words choose to install in this project, in these ways.
abbrev pub ChooseInstall : List (List ℕ) → List (List ℕ) → Ways → Type 0
ChooseInstall words project ways = chosen_in words ≡ Ok (record { project = project; task = tasks.Install ways })

-- The words choose to update this project, in these ways.
abbrev pub ChooseUpdate : List (List ℕ) → List (List ℕ) → Ways → Type 0
ChooseUpdate words project ways = chosen_in words ≡ Ok (record { project = project; task = tasks.Update ways })
