-- The text of a journal, by lines. A journal says what an install that was committed is to do, so that it can be
-- finished after a crash: the generation that it makes, and the targets of its parts, numbered from 0.
use Rattle.std.specs.Prelude.{◌≡◌, ◌≢◌, ℕ, ◌+◌, ◌≤◌, ◌<◌, ◌^◌, List, [], ◌∷◌, ◌++◌, codes, Bool, true, false, All, AllPairs}
use Rattle.hex.specs.Hex.{encode_lower}
use Rattle.path_name.specs.Decimals.{decimal_text}
use Rattle.path_name.specs.Paths.{path_text}
use Rattle.install_world.specs.Lines.{line, IsBadFrom}
use Rattle.install_world.specs.Targets.{IsTargetPath, AreTargetsApart}
use Rattle.install_world.specs.declared.journal.Journal.{Journal}
use Rattle.install_world.specs.declared.target.Target.{Target}
use Rattle.install_world.specs.declared.version.Version.{Version}
use Rattle.install_world.specs.declared.version.Version.TheVariants.{One, Two}

-- `install-journal 1` or `install-journal 2`
abbrev pub version_words : Version → List ℕ
version_words One = codes "install-journal 1"
version_words Two = codes "install-journal 2"

-- `generation G`, in decimal without leading zeros
abbrev pub generation_words : ℕ → List ℕ
generation_words generation = codes "generation " ++ decimal_text generation

-- `move`, or `gone` for a target at which nothing is to stand
abbrev pub mark_words : Bool → List ℕ
mark_words false = codes "move "
mark_words true = codes "gone "

-- `move K HEX` or `gone K HEX`: the part's number, and the path's text in small hex digits
abbrev pub target_words : ℕ → Target → List ℕ
target_words number target = mark_words target.gone ++ (decimal_text number ++ 32 ∷ encode_lower (path_text target.path))

-- the lines of targets, numbered from a number on
unfoldable pub target_lines : ℕ → List Target → List ℕ
target_lines number [] = []
target_lines number (target ∷ targets) = line (target_words number target) ++ target_lines (number + 1) targets

abbrev pub end_line : List ℕ
end_line = line (codes "end")

-- the text of a journal in a version
unfoldable pub journal_text : Version → Journal → List ℕ
journal_text version journal =
    line (version_words version) ++ (line (generation_words journal.generation) ++ (target_lines 0 journal.targets ++ end_line))

-- the first generation is 1
pub record IsGeneration (generation : ℕ) : Type 0 where
  pub positive : 1 ≤ generation
  pub small : generation < 2 ^ 64

-- Version 1 has no `gone`.
abbrev pub IsMarkOf : Version → Bool → Type 0
IsMarkOf One gone = gone ≡ false
IsMarkOf Two gone = Unit {0}

-- a target as a journal of a version may have it
pub record IsTargetOf (version : Version) (target : Target) : Type 0 where
  pub place : IsTargetPath target.path
  pub mark : IsMarkOf version target.gone

-- the targets of a journal of a version: one or more, each of them a target, and apart from each other
pub record IsJobOf (version : Version) (targets : List Target) : Type 0 where
  pub some : targets ≢ []
  pub each : All (IsTargetOf version) targets
  pub apart : AllPairs AreTargetsApart targets

-- what a journal of a version may say
pub record IsJournal (version : Version) (journal : Journal) : Type 0 where
  pub generation : IsGeneration journal.generation
  pub job : IsJobOf version journal.targets

-- The text says this journal, in version 1 or 2.
pub record Says (text : List ℕ) (journal : Journal) : Type 0 where
  pub version : Version
  pub is_journal : IsJournal version journal
  pub printed : text ≡ journal_text version journal

-- a text in the grammar
abbrev pub IsJournalText : List ℕ → Type 0
IsJournalText text = (journal : Journal) × Says text journal

-- a text outside of it, and the place of its first line that is not as it must be
abbrev pub IsBadJournal : List ℕ → ℕ → Type 0
IsBadJournal text at = IsBadFrom IsJournalText text at
