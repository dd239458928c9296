-- Torn bytes take no place away: where a change has a place in a tree, its torn form has one in a tree of the same kinds.
use Rattle.std.proofs.Common.{◌≡◌, ℕ, Bool, true, false, cond, List, [], ◌∷◌, Option, Some, None, is_some, is_none, not, filter_map, refl, sym, ap, ap₂, ◌∙◌}
use Rattle.std.specs.Prelude.{◌&&◌, ◌||◌}
use Rattle.path_name.specs.Paths.{without_last}
use Rattle.tree_dev.specs.Trees.{FileTree, behind, entry_at, has_folder, is_folder, kind_of, names_in, one_segment}
use Rattle.tree_dev.specs.Changes.{has_no_names, has_place, is_file, is_free, is_free_for_file, is_leaf, is_root}
use Rattle.tree_dev.specs.Memory.{torn_change}
use Rattle.tree_dev.specs.declared.change.Change.{Change}
use Rattle.tree_dev.specs.declared.change.Change.TheVariants as changes
use Rattle.tree_dev.specs.declared.entry.Entry.{Entry}
use Rattle.tree_dev.specs.declared.entry.Entry.TheVariants as entries
use Rattle.tree_dev.specs.declared.entry.Kind.{Kind}
use Rattle.tree_dev.specs.declared.entry.Kind.TheVariants as kinds
use Rattle.tree_dev.proofs.Unwritten.{HasSameKinds, same_keys, same_paths}

absent_kind : Kind → Bool
absent_kind kinds.Absent = true
absent_kind kinds.File = false
absent_kind kinds.Folder = false
absent_kind kinds.Other = false

file_kind : Kind → Bool
file_kind kinds.Absent = false
file_kind kinds.File = true
file_kind kinds.Folder = false
file_kind kinds.Other = false

folder_kind : Kind → Bool
folder_kind kinds.Absent = false
folder_kind kinds.File = false
folder_kind kinds.Folder = true
folder_kind kinds.Other = false

absent : (o : Option Entry) → absent_kind (kind_of o) ≡ is_none o
unfolding absent_kind
absent None = refl
absent (Some (entries.File bytes)) = refl
absent (Some entries.Folder) = refl
absent (Some entries.Other) = refl

file : (o : Option Entry) → file_kind (kind_of o) ≡ is_file o
unfolding file_kind
file None = refl
file (Some (entries.File bytes)) = refl
file (Some entries.Folder) = refl
file (Some entries.Other) = refl

folder : (o : Option Entry) → folder_kind (kind_of o) ≡ is_folder o
unfolding folder_kind
folder None = refl
folder (Some (entries.File bytes)) = refl
folder (Some entries.Folder) = refl
folder (Some entries.Other) = refl

there : (o : Option Entry) → not (is_none o) ≡ is_some o
there None = refl
there (Some entry) = refl

module _ (t u : FileTree) (same : HasSameKinds t u) where
  kinds_at : (p : List (List ℕ)) → kind_of (entry_at t p) ≡ kind_of (entry_at u p)
  kinds_at [] = refl
  kinds_at (segment ∷ rest) = same (segment ∷ rest)

  absent_at : (p : List (List ℕ)) → is_none (entry_at t p) ≡ is_none (entry_at u p)
  absent_at p = sym (absent (entry_at t p)) ∙ ap absent_kind (kinds_at p) ∙ absent (entry_at u p)

  there_at : (p : List (List ℕ)) → is_some (entry_at t p) ≡ is_some (entry_at u p)
  there_at p = sym (there (entry_at t p)) ∙ ap not (absent_at p) ∙ there (entry_at u p)

  file_at : (p : List (List ℕ)) → is_file (entry_at t p) ≡ is_file (entry_at u p)
  file_at p = sym (file (entry_at t p)) ∙ ap file_kind (kinds_at p) ∙ file (entry_at u p)

  folder_at : (p : List (List ℕ)) → is_folder (entry_at t p) ≡ is_folder (entry_at u p)
  folder_at p = sym (folder (entry_at t p)) ∙ ap folder_kind (kinds_at p) ∙ folder (entry_at u p)

  folder_above : (up : Option (List (List ℕ))) → has_folder t up ≡ has_folder u up
  folder_above None = refl
  folder_above (Some p) = folder_at p

  free_at : (p : List (List ℕ)) → is_free t p ≡ is_free u p
  free_at p = ap₂ (λ a b. a && b) (folder_above (without_last p)) (absent_at p)

  free_for_file_at : (p : List (List ℕ)) → is_free_for_file t p ≡ is_free_for_file u p
  free_for_file_at p = ap₂ (λ a b. a && b) (folder_above (without_last p)) (ap₂ (λ a b. a || b) (absent_at p) (file_at p))

  leaf_at : (p : List (List ℕ)) → is_leaf (entry_at t p) ≡ is_leaf (entry_at u p)
  leaf_at p = ap₂ (λ a b. a && not b) (there_at p) (folder_at p)

  names_at : (p : List (List ℕ)) → names_in t p ≡ names_in u p
  unfolding names_in
  names_at p = ap (λ paths. filter_map (λ path. one_segment (behind p path)) paths) (same_paths t u (same_keys t u same))

  target_at : (from to : List (List ℕ)) → cond (is_file (entry_at t from)) (is_free_for_file t to) (is_free t to) ≡ cond (is_file (entry_at u from)) (is_free_for_file u to) (is_free u to)
  target_at from to = ap (λ b. cond b (is_free_for_file t to) (is_free t to)) (file_at from) ∙ ap₂ (cond (is_file (entry_at u from))) (free_for_file_at to) (free_at to)

  same_place : (change : Change) → has_place t change ≡ has_place u change
  unfolding has_place
  same_place (changes.Written at bytes) = free_for_file_at at
  same_place (changes.FolderMade at) = free_at at
  same_place (changes.Renamed from to) = ap₂ (λ a b. a && is_none (behind from to) && b) (there_at from) (target_at from to)
  same_place (changes.FileRemoved at) = leaf_at at
  same_place (changes.FolderRemoved at) = ap₂ (λ a b. a && not (is_root at) && has_no_names b) (folder_at at) (names_at at)

torn_place : (u : FileTree) (torn : Option (List ℕ)) (change : Change) → has_place u (torn_change torn change) ≡ has_place u change
unfolding has_place
torn_place u None change = refl
torn_place u (Some torn) (changes.Written at bytes) = refl
torn_place u (Some torn) (changes.FolderMade at) = refl
torn_place u (Some torn) (changes.Renamed from to) = refl
torn_place u (Some torn) (changes.FileRemoved at) = refl
torn_place u (Some torn) (changes.FolderRemoved at) = refl

pub place_kept : (t u : FileTree) → HasSameKinds t u → (change : Change) → has_place t change ≡ true → has_place u change ≡ true
place_kept t u same change place = sym (same_place t u same change) ∙ place
