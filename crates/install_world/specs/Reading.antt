-- What may follow the lines of a journal that were read: each line leaves a grammar of the text behind it.
use Rattle.std.specs.Prelude.{◌≡◌, ◌⊎◌, ℕ, List, ◌++◌, length, IsTrue, All, Any, AllPairs}
use Rattle.std.specs.BTreeSet.{BTreeSet, contains}
use Rattle.path_name.specs.Orders.{path_cmp}
use Rattle.install_world.specs.Lines.{line}
use Rattle.install_world.specs.Targets.{AreApart, AreTargetsApart}
use Rattle.install_world.specs.JournalText.{generation_words, target_lines, end_line, IsTargetOf, IsJobOf, IsJournal}
use Rattle.install_world.specs.declared.journal.Journal.{Journal}
use Rattle.install_world.specs.declared.target.Target.{Target}
use Rattle.install_world.specs.declared.version.Version.{Version}

-- the text behind the lines of some targets says more of them
pub record SaysMore (version : Version) (targets : List Target) (text : List ℕ) (more : List Target) : Type 0 where
  pub job : IsJobOf version (targets ++ more)
  pub printed : text ≡ target_lines (length targets) more ++ end_line

abbrev pub IsBehindTargets : Version → List Target → List ℕ → Type 0
IsBehindTargets version targets text = (more : List Target) × SaysMore version targets text more

-- the text behind the line of the version says a journal
pub record SaysBehindVersion (version : Version) (text : List ℕ) (journal : Journal) : Type 0 where
  pub is_journal : IsJournal version journal
  pub printed : text ≡ line (generation_words journal.generation) ++ (target_lines 0 journal.targets ++ end_line)

abbrev pub IsBehindVersion : Version → List ℕ → Type 0
IsBehindVersion version text = (journal : Journal) × SaysBehindVersion version text journal

-- the set has this path
abbrev pub Has : BTreeSet (List (List ℕ)) → List (List ℕ) → Type 0
Has paths path = IsTrue (contains path_cmp paths path)

-- any two of its paths are one or apart
abbrev pub AreAllApart : BTreeSet (List (List ℕ)) → Type 0
AreAllApart paths = (first second : List (List ℕ)) → Has paths first → Has paths second → (first ≡ second) ⊎ AreApart first second

-- the targets that were read, and their paths
pub record IsRead (version : Version) (targets : List Target) (paths : BTreeSet (List (List ℕ))) : Type 0 where
  pub each : All (IsTargetOf version) targets
  pub apart : AllPairs AreTargetsApart targets
  pub there : All (λ target. Has paths target.path) targets
  pub none_else : (path : List (List ℕ)) → Has paths path → Any (λ target. target.path ≡ path) targets
