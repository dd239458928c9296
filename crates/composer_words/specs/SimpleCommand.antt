-- The command line, as the rules from which clap reads words: `[-d DIR] COMMAND`, where the commands
-- `install`, `update` and `dump-autoload` take `-o`, `-a` and `--no-dev`, `lookup` takes NAME and `demo` N.
use Rattle.std.specs.Prelude.{ℕ, List, codes, Some, true}
use Rattle.clap.specs.Words.{App, Rule, Shape, new_app, new_rule, with_rule, with_subcommand}
use Rattle.clap.specs.Simple.{on_top}
use Rattle.clap.specs.declared.builder.action.ArgAction.TheVariants.{Set, SetTrue}

-- `-d DIR`
abbrev pub directory_rule : Rule
directory_rule = record (new_rule (codes "directory")) { short = Some 100; action = Some Set }

-- a flag of one letter
abbrev pub short_flag : List ℕ → ℕ → Rule
short_flag id letter = record (new_rule id) { short = Some letter; action = Some SetTrue }

-- a flag with a name, which is its id too
abbrev pub long_flag : List ℕ → Rule
long_flag name = record (new_rule name) { long = Some name; action = Some SetTrue }

-- a word that has to be there, read as a text
abbrev pub word_rule : List ℕ → Rule
word_rule id = record (new_rule id) { action = Some Set; required = true }

-- a command of this name that takes `-o`, `-a` and `--no-dev`
abbrev pub app_with_ways : List ℕ → App
app_with_ways name =
    with_rule (with_rule (with_rule (new_app name) (short_flag (codes "optimised") 111)) (short_flag (codes "authoritative") 97)) (long_flag (codes "no-dev"))

-- a command of this name that takes one word
abbrev pub app_with_word : List ℕ → List ℕ → App
app_with_word name id = with_rule (new_app name) (word_rule id)

-- The words do not begin with the program's name, and one of them names a command.
abbrev pub wants_command : Shape → Shape
wants_command s = record s { no_binary_name = true; subcommand_required = true }

abbrev pub app_of_options : App
app_of_options = with_rule (on_top wants_command (new_app (codes "composer"))) directory_rule

unfoldable pub composer_app : App
composer_app = with_subcommand (with_subcommand (with_subcommand (with_subcommand (with_subcommand (with_subcommand (with_subcommand (with_subcommand
    app_of_options
    (app_with_ways (codes "install")).top)
    (app_with_ways (codes "update")).top)
    (app_with_ways (codes "dump-autoload")).top)
    (app_with_word (codes "lookup") (codes "name")).top)
    (new_app (codes "files")).top)
    (new_app (codes "check")).top)
    (new_app (codes "recover")).top)
    (app_with_word (codes "demo") (codes "number")).top
