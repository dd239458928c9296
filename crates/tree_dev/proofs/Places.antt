-- Where a change has a place.
use Rattle.std.proofs.Common.{◌≡◌, ℕ, Bool, true, false, ◌&&◌, cond, not, List, [], ◌∷◌, Option, Some, None, is_none, is_some, refl, sym, ap, ◌∙◌}
use Rattle.path_name.specs.Paths.{BeginsWith}
use Rattle.tree_dev.specs.Trees.{FileTree, behind, entry_at, is_folder, kind_at, kind_of, names_in}
use Rattle.tree_dev.specs.Changes.{has_no_names, has_place, is_file, is_free, is_free_for_file, is_root}
use Rattle.tree_dev.specs.Listing.{HasName, IsLastName}
use Rattle.tree_dev.specs.Kinds.{names_entry, names_file, names_folder}
use Rattle.tree_dev.specs.declared.change.Change.TheVariants as changes
use Rattle.tree_dev.specs.declared.entry.Entry.{Entry}
use Rattle.tree_dev.specs.declared.entry.Entry.TheVariants as entries
use Rattle.tree_dev.specs.declared.entry.Kind.{Kind}
use Rattle.tree_dev.specs.declared.entry.Kind.TheVariants as kinds
use Rattle.tree_dev.proofs.Behind.{behind_head, head_behind}
use Rattle.tree_dev.specs.Trees.{IsTree}
use Rattle.tree_dev.proofs.NamesIn.{after_nothing, child_is_segment, is_child, is_name_of, listed, name_itself}

folder_kind : (e : Option Entry) → names_folder (kind_of e) ≡ is_folder e
folder_kind None = refl
folder_kind (Some (entries.File bytes)) = refl
folder_kind (Some entries.Folder) = refl
folder_kind (Some entries.Other) = refl

file_kind : (e : Option Entry) → names_file (kind_of e) ≡ is_file e
file_kind None = refl
file_kind (Some (entries.File bytes)) = refl
file_kind (Some entries.Folder) = refl
file_kind (Some entries.Other) = refl

entry_kind : (e : Option Entry) → names_entry (kind_of e) ≡ is_some e
entry_kind None = refl
entry_kind (Some (entries.File bytes)) = refl
entry_kind (Some entries.Folder) = refl
entry_kind (Some entries.Other) = refl

pub folder_there : (t : FileTree) (at : List (List ℕ)) (k : Kind) → k ≡ kind_at t at → names_folder k ≡ is_folder (entry_at t at)
unfolding kind_at
folder_there t at k e = ap names_folder e ∙ folder_kind (entry_at t at)

pub file_there : (t : FileTree) (at : List (List ℕ)) (k : Kind) → k ≡ kind_at t at → names_file k ≡ is_file (entry_at t at)
unfolding kind_at
file_there t at k e = ap names_file e ∙ file_kind (entry_at t at)

pub entry_there : (t : FileTree) (at : List (List ℕ)) (k : Kind) → k ≡ kind_at t at → names_entry k ≡ is_some (entry_at t at)
unfolding kind_at
entry_there t at k e = ap names_entry e ∙ entry_kind (entry_at t at)

-- a path that begins with another stands behind it
pub begins_behind : (head path : List (List ℕ)) → BeginsWith path head → is_none (behind head path) ≡ false
begins_behind head path begins = ap is_none (ap (behind head) begins.1 ∙ behind_head head begins.0)

not_begins : (head path : List (List ℕ)) (b : Option (List (List ℕ))) → behind head path ≡ b → (BeginsWith path head → ⊥) → is_none b ≡ true
not_begins head path None e apart = refl
not_begins head path (Some rest) e apart = absurd (apart (rest, head_behind head path rest e))

pub not_behind : (head path : List (List ℕ)) → (BeginsWith path head → ⊥) → is_none (behind head path) ≡ true
not_behind head path apart = not_begins head path (behind head path) refl apart

false_and : (a b : Bool) → a ≡ false → (a && b) ≡ false
false_and true b e = absurd cc
false_and false b e = refl

true_then : (a b : Bool) → b ≡ false → (a && b) ≡ false
true_then true b e = e
true_then false b e = refl

pub target_below : (t : FileTree) (from to : List (List ℕ)) → is_none (behind from to) ≡ false → false ≡ has_place t (changes.Renamed from to)
unfolding has_place
target_below t from to e = sym (false_and (is_some (entry_at t from) && is_none (behind from to)) _ (true_then (is_some (entry_at t from)) (is_none (behind from to)) e))

pub target_fits : (t : FileTree) (from to : List (List ℕ)) (fits : Bool) → is_some (entry_at t from) ≡ true → is_none (behind from to) ≡ true
    → fits ≡ cond (is_file (entry_at t from)) (is_free_for_file t to) (is_free t to) → fits ≡ has_place t (changes.Renamed from to)
unfolding has_place
target_fits t from to fits there apart e = rw (there, apart) e

no_names : (names : List (List ℕ)) → ((name : List ℕ) → is_name_of name names ≡ true → ⊥) → has_no_names names ≡ true
no_names [] none = refl
no_names (name ∷ names) none = absurd (none name (rw (name_itself name) refl))

some_names : (names : List (List ℕ)) (name : List ℕ) → is_name_of name names ≡ true → has_no_names names ≡ false
some_names [] name e = absurd cc
some_names (x ∷ names) name e = refl

-- an empty folder
pub empty_folder : (t : FileTree) (at : List (List ℕ)) → IsTree t → is_folder (entry_at t at) ≡ true → is_root at ≡ false → IsLastName t at [] → true ≡ has_place t (changes.FolderRemoved at)
unfolding has_place
empty_folder t at tree folder root none =
    let empty = no_names (names_in t at) (λ name among. let has = is_child t at name among in none name has (after_nothing name (child_is_segment t at name tree has))) in
    rw (folder, root, empty) refl

pub full_folder : (t : FileTree) (at : List (List ℕ)) (name : List ℕ) → HasName t at name → false ≡ has_place t (changes.FolderRemoved at)
unfolding has_place
full_folder t at name has = sym (true_then (is_folder (entry_at t at) && not (is_root at)) (has_no_names (names_in t at)) (some_names (names_in t at) name (listed t at name has)))

pub no_folder : (t : FileTree) (at : List (List ℕ)) → is_folder (entry_at t at) ≡ false → false ≡ has_place t (changes.FolderRemoved at)
unfolding has_place
no_folder t at e = rw e refl

pub below_root : (at : List (List ℕ)) → (at ≡ [] → ⊥) → is_root at ≡ false
below_root [] e = absurd (e refl)
below_root (x ∷ xs) e = refl

pub no_name_removable : (t : FileTree) (at : List (List ℕ)) → kind_at t at ≡ kinds.Folder → is_root at ≡ false → names_in t at ≡ [] → has_place t (changes.FolderRemoved at) ≡ true
unfolding has_place
no_name_removable t at kind below none =
    let folder : is_folder (entry_at t at) ≡ true = sym (folder_there t at kinds.Folder (sym kind)) in
    rw (folder, below, none) refl
