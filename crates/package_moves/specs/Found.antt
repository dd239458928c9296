-- What looking through `vendor` finds.
use Rattle.std.specs.Prelude.{◌≡◌, ℕ, List, [], ◌∷◌, ◌++◌, Bool, ◌||◌, ◌&&◌}
use Rattle.std.specs.BTreeSet.{contains}
use Rattle.std.specs.Bool.{Decides}
use Rattle.std.specs.Ordering.{is_eq}
use Rattle.path_name.specs.Orders.{path_cmp}
use Rattle.tree_dev.specs.Trees.{FileTree, IsListing, entry_at}
use Rattle.tree_dev.specs.Changes.{is_leaf}
use Rattle.tree_dev.specs.Projects.{vendor_path}
use Rattle.stage_job.specs.declared.job.Part.{Part}
use Rattle.package_moves.specs.Needed.{Needs, is_blocked, is_blocked_of, names_of, unneeded, unneeded_at, unneeded_of}
use Rattle.package_moves.specs.Wanted.{Stands, vendor_name}
use Rattle.package_moves.specs.declared.listing.Listed.{Listed}
use Rattle.package_moves.specs.declared.listing.Listed.TheVariants as listings
use Rattle.package_moves.specs.declared.unneeded.Found.{Found}

-- names that were listed stand once each, in byte order
abbrev pub IsListingOf : Listed → Type 0
IsListingOf (listings.Names names) = IsListing names
IsListingOf listings.Nothing = Unit {0}
IsListingOf listings.Other = Unit {0}

-- one more entry of `vendor` was looked at
pub record AddsName (needs : Needs) (project : List (List ℕ)) (t : FileTree) (path : List (List ℕ)) (before after : Found) : Type 0 where
  pub gone : after.unneeded.items ≡ before.unneeded.items ++ unneeded_at needs project t path
  pub in_way : (other : List (List ℕ)) → contains path_cmp after.blocked other ≡ ((is_eq (path_cmp path other) && is_blocked needs project t path) || contains path_cmp before.blocked other)

-- the entries of these names were looked at
pub record AddsNames (needs : Needs) (project : List (List ℕ)) (t : FileTree) (folder names : List (List ℕ)) (before after : Found) : Type 0 where
  pub gone : after.unneeded.items ≡ before.unneeded.items ++ unneeded_of needs project t folder names
  pub in_way : (other : List (List ℕ)) → contains path_cmp after.blocked other ≡ (is_blocked_of needs project t folder names other || contains path_cmp before.blocked other)

-- all of `vendor` was looked through
pub record IsFoundIn (needs : Needs) (project : List (List ℕ)) (t : FileTree) (found : Found) : Type 0 where
  pub vendor : found.no_folder ≡ is_leaf (entry_at t (vendor_path project))
  pub gone : found.unneeded.items ≡ unneeded needs project t
  pub in_way : (path : List (List ℕ)) → contains path_cmp found.blocked path ≡ is_blocked_of needs project t vendor_name (names_of t (vendor_path project)) path

-- for each part a flag says whether it stands
abbrev pub AreStanding : List (List ℕ) → FileTree → List Part → List Bool → Type 0
AreStanding project t [] [] = Unit {0}
AreStanding project t [] (flag ∷ flags) = ⊥
AreStanding project t (part ∷ parts) [] = ⊥
AreStanding project t (part ∷ parts) (flag ∷ flags) = Decides flag (Stands project t part) × AreStanding project t parts flags
