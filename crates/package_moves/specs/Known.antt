-- What is known of the entries of `vendor` that were found, whatever a tree tells: enough for a job that can be staged.
use Rattle.std.specs.Prelude.{◌≡◌, ◌⊎◌, ℕ, List, [], ◌∷◌, ◌++◌, Bool, true, false}
use Rattle.std.specs.BTreeSet.{contains}
use Rattle.path_name.specs.Orders.{path_cmp}
use Rattle.stage_job.specs.Copied.{is_among}
use Rattle.stage_job.specs.Jobs.{AreApart}
use Rattle.package_moves.specs.Needed.{Needs}
use Rattle.package_moves.specs.Wanted.{vendor_name}
use Rattle.package_moves.specs.declared.unneeded.Found.{Found}

-- an entry of `vendor` that is no target, and in which none stands
pub record IsAlone (needs : Needs) (names path : List (List ℕ)) : Type 0 where
  pub name : List ℕ
  pub is : path ≡ vendor_name ++ name ∷ []
  pub among : is_among name names ≡ true
  pub above : needs.is_above path ≡ false
  pub target : needs.is_target path ≡ false

-- an entry that is no target, of a folder in which targets stand
pub record IsBesideTargets (needs : Needs) (blocked : List (List ℕ) → Bool) (names path : List (List ℕ)) : Type 0 where
  pub name : List ℕ
  pub last : List ℕ
  pub is : path ≡ (vendor_name ++ name ∷ []) ++ last ∷ []
  pub among : is_among name names ≡ true
  pub above : needs.is_above (vendor_name ++ name ∷ []) ≡ true
  pub target : needs.is_target path ≡ false
  pub free : blocked (vendor_name ++ name ∷ []) ≡ false

-- each path is one of these, at names of `vendor`
abbrev pub AreKnown : Needs → (List (List ℕ) → Bool) → List (List ℕ) → List (List (List ℕ)) → Type 0
AreKnown needs blocked names [] = Unit {0}
AreKnown needs blocked names (path ∷ paths) = (IsAlone needs names path ⊎ IsBesideTargets needs blocked names path) × AreKnown needs blocked names paths

-- each of these paths is apart from one
abbrev pub AreAllApart : List (List (List ℕ)) → List (List ℕ) → Type 0
AreAllApart [] target = Unit {0}
AreAllApart (path ∷ paths) target = AreApart path target × AreAllApart paths target

-- no path is at or below another
abbrev pub ArePathsApart : List (List (List ℕ)) → Type 0
ArePathsApart [] = Unit {0}
ArePathsApart (path ∷ paths) = AreAllApart paths path × ArePathsApart paths

-- what is known once the entries of these names were looked at
pub record IsKnown (needs : Needs) (names : List (List ℕ)) (found : Found) : Type 0 where
  pub known : AreKnown needs (contains path_cmp found.blocked) names found.unneeded.items
  pub apart : ArePathsApart found.unneeded.items
  pub ways : (path : List (List ℕ)) → contains path_cmp found.blocked path ≡ true → (name : List ℕ) × ((path ≡ vendor_name ++ name ∷ []) × (is_among name names ≡ true))

-- the entry of a name was looked at, of which nothing was known before
pub record AddsKnown (needs : Needs) (name : List ℕ) (before after : Found) : Type 0 where
  pub added : List (List (List ℕ))
  pub items : after.unneeded.items ≡ before.unneeded.items ++ added
  pub known : contains path_cmp before.blocked (vendor_name ++ name ∷ []) ≡ false → AreKnown needs (contains path_cmp after.blocked) (name ∷ []) added
  pub apart : ArePathsApart added
  pub ways : (path : List (List ℕ)) → contains path_cmp after.blocked path ≡ true → (contains path_cmp before.blocked path ≡ true) ⊎ (path ≡ vendor_name ++ name ∷ [])
  pub others : (path : List (List ℕ)) → (path ≡ vendor_name ++ name ∷ [] → ⊥) → contains path_cmp after.blocked path ≡ contains path_cmp before.blocked path
