-- What words mean: the command and the project that they choose.
use Rattle.std.specs.Prelude.{◌≡◌, ◌⊎◌, ℕ, List, [], ◌∷◌, length, codes, Bool, true, false, ◌&&◌, nat_le, if◌then◌else◌, Option, Some, None, option_map, option_and_then, Result, Ok, Err}
use Rattle.std.specs.Option.{option_map_or}
use Rattle.std.specs.Str.{bytes_eq}
use Rattle.clap.specs.Words.{Kinds, Row, fault_of, first_of, matches_of, subcommand_of}
use Rattle.path_name.specs.Bytes.{is_between}
use Rattle.path_name.specs.Decimals.{is_number, number_of}
use Rattle.path_name.specs.Given.{◌>>=◌}
use Rattle.path_name.specs.Paths.{path_of}
use Rattle.path_name.specs.declared.fault.PathFault.{PathFault}
use Rattle.composer_words.specs.Faults.{fault_of_path}
use Rattle.composer_words.specs.SimpleCommand.{composer_app}
use Rattle.composer_words.specs.declared.chosen.Chosen.{Chosen}
use Rattle.composer_words.specs.declared.chosen.Task.{Task}
use Rattle.composer_words.specs.declared.chosen.Task.TheVariants.{Install, Update, DumpAutoload, Lookup, Files, Check, Recover, Demo}
use Rattle.composer_words.specs.declared.chosen.Ways.{Ways}
use Rattle.composer_words.specs.declared.fault.WordsFault.{WordsFault}
use Rattle.composer_words.specs.declared.fault.WordsFault.TheVariants.{Usage}

-- no kind of error comes
abbrev pub has_no_fault : Kinds → Bool
has_no_fault [] = true
has_no_fault (kind ∷ more) = false

-- The command line takes the words.
abbrev pub are_taken : List (List ℕ) → Bool
are_taken words = has_no_fault (fault_of composer_app words)

-- the path of a text, or Usage
abbrev pub path_or_usage : Result (List (List ℕ)) PathFault → Result (List (List ℕ)) WordsFault
path_or_usage (Ok path) = Ok path
path_or_usage (Err fault) = Err (fault_of_path fault)

-- DIR's path, and the root without a DIR
abbrev pub project_of : Option (List ℕ) → Result (List (List ℕ)) WordsFault
project_of None = Ok []
project_of (Some text) = path_or_usage (path_of text)

-- A flag's value is `true` where the words use it, else `false`.
abbrev pub is_used : List ℕ → List Row → Bool
is_used id rows = option_map_or (λ text. bytes_eq text (codes "true")) (first_of id rows) false

unfoldable pub ways_of : List Row → Ways
ways_of rows = record {
  optimised = is_used (codes "optimised") rows;
  authoritative = is_used (codes "authoritative") rows;
  no_dev = is_used (codes "no-dev") rows;
}

-- the number that one to three digits stand for
abbrev pub short_number : List ℕ → Option ℕ
short_number text = if is_number text && nat_le (length text) 3 then Some (number_of text) else None

-- a demo has from 1 to 400 packages
abbrev pub demo_number : List ℕ → Option ℕ
demo_number text = option_and_then (λ number. if is_between 1 400 number then Some number else None) (short_number text)

abbrev pub task_or_usage : Option Task → Result Task WordsFault
task_or_usage None = Err Usage
task_or_usage (Some task) = Ok task

abbrev pub lookup_task : Option (List ℕ) → Result Task WordsFault
lookup_task name = task_or_usage (option_map Lookup name)

abbrev pub demo_task : Option (List ℕ) → Result Task WordsFault
demo_task None = Err Usage
demo_task (Some text) = task_or_usage (option_map Demo (demo_number text))

-- the task of the command of this name with these matches
unfoldable pub task_of : List ℕ → List Row → Result Task WordsFault
task_of name rows =
    if bytes_eq name (codes "install") then Ok (Install (ways_of rows))
    else if bytes_eq name (codes "update") then Ok (Update (ways_of rows))
    else if bytes_eq name (codes "dump-autoload") then Ok (DumpAutoload (ways_of rows))
    else if bytes_eq name (codes "lookup") then lookup_task (first_of (codes "name") rows)
    else if bytes_eq name (codes "files") then Ok Files
    else if bytes_eq name (codes "check") then Ok Check
    else if bytes_eq name (codes "recover") then Ok Recover
    else if bytes_eq name (codes "demo") then demo_task (first_of (codes "number") rows)
    else Err Usage

abbrev pub entered_task : Option (List ℕ × List Row) → Result Task WordsFault
entered_task None = Err Usage
entered_task (Some entered) = task_of entered.0 entered.1

-- what the matches of the command line and of the command that it entered mean
unfoldable pub chosen_of : List Row → Option (List ℕ × List Row) → Result Chosen WordsFault
chosen_of rows entered = do
  project ← project_of (first_of (codes "directory") rows)
  task ← entered_task entered
  Ok (record { project = project; task = task })

-- The words' command. Usage: the command line refuses them, DIR is no path, or N is no number of a demo.
unfoldable pub command_of : List (List ℕ) → Result Chosen WordsFault
command_of words = if are_taken words then chosen_of (matches_of composer_app words) (subcommand_of composer_app words) else Err Usage

-- the words enter `demo`, and N is not one to three digits that stand for a number from 1 to 400
abbrev pub IsNoDemo : Option (List ℕ × List Row) → Type 0
IsNoDemo None = ⊥
IsNoDemo (Some entered) = (entered.0 ≡ codes "demo") × ((text : List ℕ) × (first_of (codes "number") entered.1 ≡ Some text) × (demo_number text ≡ None))

-- The command line does not take the words, or DIR is no path, or N is no number of a demo.
abbrev pub IsRefused : List (List ℕ) → Type 0
IsRefused words =
    (are_taken words ≡ false)
    ⊎ ((project_of (first_of (codes "directory") (matches_of composer_app words)) ≡ Err Usage)
    ⊎ IsNoDemo (subcommand_of composer_app words))
