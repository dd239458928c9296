-- What is left of a folder while it is removed with all that is in it. Lists have paths of folders, counted from the
-- folder that is removed.
use Rattle.std.specs.Prelude.{◌≡◌, ◌≢◌, ◌⊎◌, ℕ, List, [], ◌∷◌, ◌++◌, Bool, true, false, Result, Ok, Err, Some, None, IsTrue, Contains}
use Rattle.std.specs.BTreeSet.{BTreeSet, contains}
use Rattle.std.specs.FinMap as map
use Rattle.path_name.specs.Orders.{path_cmp}
use Rattle.tree_dev.specs.Trees.{FileTree}
use Rattle.tree_dev.specs.Changes.{is_root}
use Rattle.tree_dev.specs.declared.entry.Entry.TheVariants.{Folder}
use Rattle.install_world.specs.InFlight.{IsThere}
use Rattle.install_world.specs.declared.removal_fault.RemoveFault.{RemoveFault}
use Rattle.install_world.specs.declared.removal_fault.RemoveFault.TheVariants as faults

-- an entry was not as it was shown
abbrev pub is_vanished : {X : Type 0} → Result X RemoveFault → Bool
is_vanished (Ok x) = false
is_vanished (Err (faults.Vanished at)) = true
is_vanished (Err faults.DeviceFault) = false
is_vanished (Err faults.OutOfMemory) = false

-- A folder that the list names new stands there, below the folder that is removed.
pub record IsNewFolder (at path : List (List ℕ)) (u : FileTree) : Type 0 where
  pub below : is_root path ≡ false
  pub folder : map.get u (at ++ path) ≡ Some Folder

-- Entries that are no folders were removed, and folders were put on a list.
pub record RemovesLeaves (at : List (List ℕ)) (before after : List (List (List ℕ))) (t u : FileTree) : Type 0 where
  pub folders : (path : List (List ℕ)) → map.get t path ≡ Some Folder → map.get u path ≡ Some Folder
  pub was : (path : List (List ℕ)) → IsThere u path → IsThere t path
  pub stay : (path : List (List ℕ)) → Contains before path → Contains after path
  pub new : (path : List (List ℕ)) → Contains after path → Contains before path ⊎ IsNewFolder at path u

-- One entry: if it is still there it is on the list, and all else is as it was.
pub record RemovesLeaf (at entry : List (List ℕ)) (before after : List (List (List ℕ))) (t u : FileTree) : Type 0 where
  pub leaves : RemovesLeaves at before after t u
  pub listed : IsThere u (at ++ entry) → Contains after entry
  pub others : (path : List (List ℕ)) → path ≢ at ++ entry → map.get u path ≡ map.get t path

-- All entries of a folder: those that are still there are on the list.
pub record RemovesLeavesOf (at folder : List (List ℕ)) (before after : List (List (List ℕ))) (t u : FileTree) : Type 0 where
  pub leaves : RemovesLeaves at before after t u
  pub listed : (name : List ℕ) → IsThere u (at ++ (folder ++ name ∷ [])) → Contains after (folder ++ name ∷ [])

-- a path of the list is the head of this one
pub record HasHead (paths : List (List (List ℕ))) (path : List (List ℕ)) : Type 0 where
  pub head : List (List ℕ)
  pub on : Contains paths head
  pub rest : List (List ℕ)
  pub is : path ≡ head ++ rest

-- The paths of two lists are folders below the one that is removed, and each entry below it is on the second list, or
-- at or below one of the first.
pub record AreCovered (at : List (List ℕ)) (ahead emptied : List (List (List ℕ))) (t : FileTree) : Type 0 where
  pub each : (path : List (List ℕ)) → Contains ahead path ⊎ Contains emptied path → IsNewFolder at path t
  pub all : (path : List (List ℕ)) → is_root path ≡ false → IsThere t (at ++ path) → Contains emptied path ⊎ HasHead ahead path

-- The same of a set that has each entry.
pub record AreInSet (at : List (List ℕ)) (paths : BTreeSet (List (List ℕ))) (t : FileTree) : Type 0 where
  pub each : (path : List (List ℕ)) → IsTrue (contains path_cmp paths path) → IsNewFolder at path t
  pub all : (path : List (List ℕ)) → is_root path ≡ false → IsThere t (at ++ path) → IsTrue (contains path_cmp paths path)

-- A folder without entries.
pub record IsBare (at : List (List ℕ)) (t : FileTree) : Type 0 where
  pub below : is_root at ≡ false
  pub folder : map.get t at ≡ Some Folder
  pub none : (name : List ℕ) → map.get t (at ++ name ∷ []) ≡ None
