-- The mode of the tables that are written, and their generation.
use Rattle.std.specs.Prelude.{ℕ, ◌+◌, ◌||◌, nat_eq, if◌then◌else◌, Option, Some, None, Result, Ok, Err}
use Rattle.tree_dev.specs.declared.limits.TheConstants.{LAST_GENERATION}
use Rattle.tree_dev.specs.declared.limits.LimitKind.TheVariants.{Generation}
use Rattle.composer_words.specs.declared.chosen.Ways.{Ways}
use Rattle.manifest_read.specs.declared.types.Manifest.{Manifest}
use Rattle.table_scan.specs.declared.types.Mode.{Mode}
use Rattle.table_scan.specs.declared.types.Mode.TheVariants as modes
use Rattle.run_answers.specs.declared.refusal.Refusal.{Refusal}
use Rattle.run_answers.specs.declared.refusal.Refusal.TheVariants as refusals

-- Authoritative tables are asked for by an option or by the manifest's settings, and so are optimised ones, where authoritative
-- ones are not (Composer's documentation, "Autoloader optimization").
abbrev pub mode_of : Ways → Manifest → Mode
mode_of ways root =
    if ways.authoritative || root.authoritative then modes.Authoritative
    else if ways.optimised || root.optimise then modes.Optimised
    else modes.Plain

-- the generation behind that of the tables that stand; the first one is 1
unfoldable pub next_generation : Option ℕ → Result ℕ Refusal
next_generation None = Ok 1
next_generation (Some generation) = if nat_eq generation LAST_GENERATION then Err (refusals.Limit Generation) else Ok (generation + 1)
