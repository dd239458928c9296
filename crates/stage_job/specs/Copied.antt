-- What the calls that copy a package know and leave, entry by entry.
use Rattle.std.specs.Prelude.{◌≡◌, ℕ, ◌-◌, ◌<◌, ◌≤◌, List, [], ◌∷◌, ◌++◌, length, Bool, true, false, if◌then◌else◌, Option, Some, None, is_some, Result, Ok, Err}
use Rattle.std.specs.List.{list_any}
use Rattle.std.specs.Ordering.{eq_by_cmp}
use Rattle.std.specs.FinMap as map
use Rattle.path_name.specs.Orders.{byte_cmp}
use Rattle.tree_dev.specs.Trees.{FileTree, entry_at, names_in}
use Rattle.tree_dev.specs.Changes.{is_file, is_leaf}
use Rattle.tree_dev.specs.Projects.{is_within}
use Rattle.tree_dev.specs.declared.entry.Entry.{Entry}
use Rattle.tree_dev.specs.declared.entry.Entry.TheVariants as entries
use Rattle.tree_dev.specs.declared.limits.LimitKind.TheVariants as limits
use Rattle.stage_job.specs.Places.{new_path}
use Rattle.stage_job.specs.declared.fault.StageFault.{StageFault}
use Rattle.stage_job.specs.declared.fault.StageFault.TheVariants as faults

-- a name is one of these
abbrev pub is_among : List ℕ → List (List ℕ) → Bool
is_among name names = list_any (eq_by_cmp byte_cmp name) names

-- at or below `.install/new`
abbrev pub IsInNew : List (List ℕ) → List (List ℕ) → Type 0
IsInNew project at = is_within (new_path project) at ≡ true

-- an empty folder stands at a path
pub record IsEmptyFolder (at : List (List ℕ)) (t : FileTree) : Type 0 where
  pub folder : map.get t at ≡ Some entries.Folder
  pub none : (name : List ℕ) (rest : List (List ℕ)) → map.get t (at ++ name ∷ rest) ≡ None

abbrev pub folder_alone : List (List ℕ) → Option Entry
folder_alone [] = Some entries.Folder
folder_alone (segment ∷ rest) = None

-- a folder with the entries of these names that another folder has, and what lies below them
abbrev pub names_entry : FileTree → List (List ℕ) → List (List ℕ) → List (List ℕ) → Option Entry
names_entry t from names [] = Some entries.Folder
names_entry t from names (name ∷ rest) = if is_among name names then map.get t (from ++ name ∷ rest) else None

-- an entry of each name stands in a folder
abbrev pub AreThere : FileTree → List (List ℕ) → List (List ℕ) → Type 0
AreThere t folder names = (name : List ℕ) → is_among name names ≡ true → is_some (entry_at t (folder ++ name ∷ [])) ≡ true

-- something is there, and it is no file
pub record IsNoFile (at : List (List ℕ)) (t : FileTree) : Type 0 where
  pub there : is_some (entry_at t at) ≡ true
  pub no_file : is_file (entry_at t at) ≡ false

-- A folder was listed, and its names were counted.
pub record IsListed (t : FileTree) (at names : List (List ℕ)) (before after : ℕ) : Type 0 where
  pub folder : entry_at t at ≡ Some entries.Folder
  pub names_are : names ≡ names_in t at
  pub few : length (names_in t at) ≤ before
  pub counted : after ≡ before - length (names_in t at)

-- It has more names than may still be listed.
pub record IsTooLarge (t : FileTree) (at : List (List ℕ)) (before : ℕ) : Type 0 where
  pub folder : entry_at t at ≡ Some entries.Folder
  pub many : before < length (names_in t at)

-- what listing a path with a count answers: its names, that nothing is there, or why they are not listed
abbrev pub Lists : FileTree → List (List ℕ) → ℕ → ℕ → Result (Option (List (List ℕ))) StageFault → Type 0
Lists t at before after (Ok (Some names)) = IsListed t at names before after
Lists t at before after (Ok None) = entry_at t at ≡ None
Lists t at before after (Err (faults.OtherEntry path)) = (path ≡ at) × (is_leaf (entry_at t at) ≡ true)
Lists t at before after (Err (faults.Limit kind)) = (kind ≡ limits.Entries) × IsTooLarge t at before
Lists t at before after (Err (faults.MissingPath text)) = ⊥
Lists t at before after (Err (faults.Vanished path)) = ⊥
Lists t at before after (Err faults.DeviceFault) = Unit {0}
Lists t at before after (Err faults.OutOfMemory) = Unit {0}
