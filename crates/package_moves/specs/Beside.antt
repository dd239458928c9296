-- What the walk of a source beside its target answers and counts.
use Rattle.std.specs.Prelude.{◌≡◌, ◌⊎◌, ℕ, ◌+◌, ◌<◌, ◌≤◌, Bool, true, false, List, [], ◌∷◌, ◌++◌, Result, Some, None}
use Rattle.tree_dev.specs.Trees.{FileTree, entry_at, names_in}
use Rattle.tree_dev.specs.Changes.{is_leaf}
use Rattle.tree_dev.specs.declared.entry.Entry.TheVariants as entries
use Rattle.stage_job.specs.Copied.{names_entry}
use Rattle.stage_job.specs.Faults.{Refuses}
use Rattle.stage_job.specs.declared.fault.StageFault.{StageFault}
use Rattle.package_moves.specs.Counted.{names_count}
use Rattle.package_moves.specs.Wanted.{copied_entry}
use Rattle.package_moves.specs.declared.counts.Counts.{Counts}
use Rattle.package_moves.specs.declared.listing.Listed.{Listed}
use Rattle.package_moves.specs.declared.listing.Listed.TheVariants as listings

-- a fault of the device, or want of memory: it may come whatever is wanted
abbrev pub MayCome : StageFault → Type 0
MayCome fault = (wanted : Result ℕ StageFault) → Refuses fault wanted

-- ---- what was counted

-- So many names of targets were counted; or they passed the limit, whatever sources may still list.
pub record AreCounted (count : ℕ) (before after : Counts) : Type 0 where
  pub exact : after.passed ≡ false → after.targets ≡ before.targets + count
  pub many : after.passed ≡ true → (before.passed ≡ true) ⊎ (after.left.left < before.targets + count)
  pub stays : before.passed ≡ true → after.passed ≡ true
  pub falls : after.left.left ≤ before.left.left

-- what listing a path of a target found. Once the limit was passed it may say that nothing is there.
abbrev pub IsFound : FileTree → List (List ℕ) → Bool → Listed → Type 0
IsFound t at passed (listings.Names names) = (entry_at t at ≡ Some entries.Folder) × (names ≡ names_in t at)
IsFound t at passed listings.Nothing = passed ≡ false → entry_at t at ≡ None
IsFound t at passed listings.Other = is_leaf (entry_at t at) ≡ true

pub record IsListedBeside (t : FileTree) (at : List (List ℕ)) (before after : Counts) (found : Listed) : Type 0 where
  pub counted : AreCounted (names_count t at) before after
  pub is_found : IsFound t at after.passed found

-- ---- whether the same stands in both

-- The walk counted so many names, and says whether two things are alike, where `same` said that nothing differed before.
-- Once the limit was passed it says nothing where they are not.
pub record IsWalked (count : ℕ) (Alike : Type 0) (same : Bool) (before after : Counts) (answer : Bool) : Type 0 where
  pub counted : AreCounted count before after
  pub alike : answer ≡ true → (same ≡ true) × Alike
  pub differs : answer ≡ false → after.passed ≡ false → same ≡ true → Alike → ⊥

-- at two paths and below them stands the same
pub record IsAlikeAt (t : FileTree) (from to : List (List ℕ)) : Type 0 where
  pub each : (below : List (List ℕ)) → entry_at t (to ++ below) ≡ entry_at t (from ++ below)

-- at a path stands a folder with the entries of these names that another folder has, and what lies below them
pub record HasEntries (t : FileTree) (from to names : List (List ℕ)) : Type 0 where
  pub each : (below : List (List ℕ)) → entry_at t (to ++ below) ≡ names_entry t from names below

-- at a path stands the copy of a package
pub record HasCopy (t : FileTree) (from to : List (List ℕ)) : Type 0 where
  pub each : (below : List (List ℕ)) → entry_at t (to ++ below) ≡ copied_entry t from below

-- the entries of these names in two folders are alike
abbrev pub AreAlike : FileTree → List (List ℕ) → List (List ℕ) → List (List ℕ) → Type 0
AreAlike t from to [] = Unit {0}
AreAlike t from to (name ∷ names) = IsAlikeAt t (from ++ name ∷ []) (to ++ name ∷ []) × AreAlike t from to names
