-- The normal form of a version: eight rules, tried in this order (Composer documentation, "Versions and
-- constraints"; composer/semver, VersionParser::normalize).
use Rattle.std.specs.Prelude.{ℕ, ◌-◌, ◌+◌, List, [], ◌∷◌, ◌++◌, length, take, drop, Bool, true, false, not, ◌&&◌, ◌||◌, ◌==◌, nat_lt, nat_le, if◌then◌else◌, Option, Some, None, Result, Ok, Err, codes, unwrap_or, slice_index}
use Rattle.std.specs.List.{prefix_len, suffix_len, position_or_len, list_all, list_any, join_by}
use Rattle.path_name.specs.Given.{◌>>=◌}
use Rattle.path_name.specs.Bytes.{is_blank, is_digit, lowered}
use Rattle.path_name.specs.Orders.{bytes_are_equal}
use Rattle.path_name.specs.Decimals.{decimal_text}
use Rattle.version_norm.specs.declared.fault.VersionFault.{VersionFault}
use Rattle.version_norm.specs.declared.fault.VersionFault.TheVariants.{DateVersion, NotAVersion}
use Rattle.version_norm.specs.declared.version.Stage.{Stage}
use Rattle.version_norm.specs.declared.version.Stage.TheVariants as stages
use Rattle.version_norm.specs.declared.version.Modifier.{Modifier}
use Rattle.version_norm.specs.declared.version.Numbers.{Numbers}
use Rattle.version_norm.specs.declared.version.Numbered.{Numbered}
use Rattle.version_norm.specs.declared.version.Version.{Version}
use Rattle.version_norm.specs.declared.version.Version.TheVariants as versions
use Rattle.version_norm.specs.Pieces.{Reading, Suffix, is_any_v, is_small_v, is_dot_or_dash, without_first, number_at, part_at, branch_part_at, anything, after_word, suffix_at, is_dev, dev_at_end}

-- ---- before the rules: blanks at both ends are cut

abbrev pub without_blanks_before : List ℕ → List ℕ
without_blanks_before text = drop (prefix_len is_blank text) text

abbrev pub without_blanks_after : List ℕ → List ℕ
without_blanks_after text = take (length text - suffix_len is_blank text) text

abbrev pub trimmed : List ℕ → List ℕ
trimmed text = without_blanks_after (without_blanks_before text)

-- ---- rule 1: one final `@` and a stability, in any case, is cut

abbrev pub is_flag : List ℕ → Bool
is_flag word = bytes_are_equal (lowered word) (codes "stable") || bytes_are_equal (lowered word) (codes "rc") || bytes_are_equal (lowered word) (codes "beta")
    || bytes_are_equal (lowered word) (codes "alpha") || bytes_are_equal (lowered word) (codes "dev")

abbrev pub without_flag : List ℕ → List ℕ
without_flag [] = []
without_flag (byte ∷ rest) = if byte == 64 && is_flag rest then [] else byte ∷ without_flag rest

-- ---- rule 2: `master`, `trunk` and `default` become branches

abbrev pub is_main_line : List ℕ → Bool
is_main_line text = bytes_are_equal text (codes "master") || bytes_are_equal text (codes "trunk") || bytes_are_equal text (codes "default")

abbrev pub with_branch_mark : List ℕ → List ℕ
with_branch_mark text = if is_main_line text then codes "dev-" ++ text else text

-- ---- rule 3: `dev-` in any case and at least one byte, none of them a blank, `,` or `|`

abbrev pub is_in_branch_name : ℕ → Bool
is_in_branch_name byte = not (is_blank byte || byte == 44 || byte == 124)

abbrev pub branch_named : Option (List ℕ) → Option (List ℕ)
branch_named None = None
branch_named (Some name) = if nat_lt 0 (length name) && list_all is_in_branch_name name then Some (codes "dev-" ++ name) else None

abbrev pub branch_of : List ℕ → Option (List ℕ)
branch_of text = branch_named (after_word (codes "dev-") text)

-- ---- rule 4: a first `+` with something on both sides is cut with all that follows, in a text without blank or comma

abbrev pub is_plus : ℕ → Bool
is_plus byte = byte == 43

abbrev pub is_blank_or_comma : ℕ → Bool
is_blank_or_comma byte = is_blank byte || byte == 44

abbrev pub without_build : List ℕ → List ℕ
without_build text =
    let at = position_or_len is_plus text in
    if not (list_any is_blank_or_comma text) && nat_lt 0 at && nat_lt (at + 1) (length text) then take at text else text

-- ---- rule 5: a classical version

-- the first number, of at most so many digits, and up to three parts; the number of a missing part is given
unfoldable pub version_numbers_at : ℕ → (List ℕ → Reading (Option ℕ)) → ℕ → List ℕ → Reading Numbers
version_numbers_at most part missing text = do
  major ← number_at most text
  minor ← part major.1
  release ← part minor.1
  build ← part release.1
  Ok (record { major = major.0; minor = unwrap_or minor.0 missing; release = unwrap_or release.0 missing; build = unwrap_or build.0 missing }, build.1)

-- the first number has at most five digits, and a missing number is 0
abbrev pub classical_numbers_at : List ℕ → Reading Numbers
classical_numbers_at text = version_numbers_at 5 part_at 0 text

-- with the word stable, the modifier, its numbers and a dev mark are dropped
abbrev pub staged : Numbers → Option Stage → List ℕ → Bool → Numbered
staged numbers None following dev = record { numbers = numbers; modifier = None; dev = false }
staged numbers (Some stage) following dev = record { numbers = numbers; modifier = Some (record { stage = stage; numbers = following }); dev = dev }

abbrev pub numbered : Numbers → Option Suffix → Bool → Numbered
numbered numbers None dev = record { numbers = numbers; modifier = None; dev = dev }
numbered numbers (Some suffix) dev = staged numbers suffix.0 suffix.1 dev

unfoldable pub classical_of : List ℕ → Result Numbered VersionFault
classical_of text = do
  numbers ← classical_numbers_at (without_first is_any_v text)
  suffix ← suffix_at numbers.1
  dev ← dev_at_end suffix.1
  Ok (numbered numbers.0 suffix.0 dev)

-- ---- rule 6: a numbered branch

-- missing parts are x parts
abbrev pub branch_numbers_at : List ℕ → Reading Numbers
branch_numbers_at text = version_numbers_at 18 branch_part_at anything text

unfoldable pub numbered_branch_of : List ℕ → Result Numbered VersionFault
numbered_branch_of text = do
  numbers ← branch_numbers_at (without_first is_small_v text)
  if is_dev (without_first is_dot_or_dash numbers.1) then Ok (record { numbers = numbers.0; modifier = None; dev = true }) else Err NotAVersion

-- ---- rule 7: a date

-- `.`, `:` or `-`
abbrev pub is_date_mark : ℕ → Bool
is_date_mark byte = byte == 46 || byte == 58 || byte == 45

abbrev pub is_in_date : ℕ → Bool
is_in_date byte = is_digit byte || is_date_mark byte

abbrev pub ends_in_date_mark : List ℕ → Bool
ends_in_date_mark text = is_date_mark (slice_index text (length text - 1))

-- after an optional `v` it begins with four digits, has only digits and marks, and doesn't end in a mark
abbrev pub is_date : List ℕ → Bool
is_date text =
    let date = without_first is_small_v text in
    nat_le 4 (prefix_len is_digit date) && list_all is_in_date date && not (ends_in_date_mark date)

-- ---- the rules in their order

-- rules 7 and 8
abbrev pub fault_of : List ℕ → VersionFault
fault_of text = if is_date text then DateVersion else NotAVersion

-- rules 6 to 8, where rule 5 doesn't take the text
abbrev pub else_numbered_branch : Result Numbered VersionFault → Result Numbered VersionFault → VersionFault → Result Version VersionFault
else_numbered_branch (Ok classical) branch fault = Ok (versions.Numbered classical)
else_numbered_branch (Err barred) (Ok branch) fault = Ok (versions.Numbered branch)
else_numbered_branch (Err barred) (Err barred_too) fault = Err fault

-- rules 5 to 8
unfoldable pub numbered_form : List ℕ → Result Version VersionFault
numbered_form text = else_numbered_branch (classical_of text) (numbered_branch_of text) (fault_of text)

-- rules 4 to 8, where rule 3 doesn't take the text
abbrev pub else_numbered : Option (List ℕ) → Result Version VersionFault → Result Version VersionFault
else_numbered None form = form
else_numbered (Some name) form = Ok (versions.Branch name)

-- rules 2 to 8
unfoldable pub unflagged_form : List ℕ → Result Version VersionFault
unflagged_form text = else_numbered (branch_of (with_branch_mark text)) (numbered_form (without_build (with_branch_mark text)))

-- all of them
unfoldable pub normal_form : List ℕ → Result Version VersionFault
normal_form text = unflagged_form (without_flag (trimmed text))

-- ---- the normal text, without leading zeros

abbrev pub stage_text : Stage → List ℕ
stage_text stages.Alpha = codes "alpha"
stage_text stages.Beta = codes "beta"
stage_text stages.Rc = codes "RC"
stage_text stages.Patch = codes "patch"

-- numbers joined by `.`
abbrev pub joined : List ℕ → List ℕ
joined ns = join_by decimal_text (codes ".") ns

abbrev pub numbers_text : Numbers → List ℕ
numbers_text n = joined (n.major ∷ n.minor ∷ n.release ∷ n.build ∷ [])

-- `-`, the word, and its numbers
abbrev pub modifier_text : Option Modifier → List ℕ
modifier_text None = []
modifier_text (Some modifier) = codes "-" ++ stage_text modifier.stage ++ joined modifier.numbers

abbrev pub dev_text : Bool → List ℕ
dev_text true = codes "-dev"
dev_text false = []

abbrev pub numbered_text : Numbered → List ℕ
numbered_text v = numbers_text v.numbers ++ modifier_text v.modifier ++ dev_text v.dev

abbrev pub normal_text : Version → List ℕ
normal_text (versions.Branch name) = name
normal_text (versions.Numbered v) = numbered_text v
