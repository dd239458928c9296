-- File trees: finite maps from paths to entries. The root is a folder, and is in no map.
use Rattle.std.specs.Prelude.{◌≡◌, ℕ, ◌<◌, ◌^◌, List, [], ◌∷◌, length, Bool, true, false, ◌&&◌, IsTrue, Option, Some, None, nat_lt, if◌then◌else◌, filter_map}
use Rattle.std.specs.List.{list_all}
use Rattle.std.specs.List.Sorted.{IsStrictlySortedBy}
use Rattle.std.specs.FinMap.{FinMap, get, contains_key, keys, len}
use Rattle.path_name.specs.Orders.{byte_cmp, bytes_are_equal, path_cmp}
use Rattle.path_name.specs.Paths.{IsPath, is_segment, without_last}
use Rattle.tree_dev.specs.declared.entry.Entry.{Entry}
use Rattle.tree_dev.specs.declared.entry.Entry.TheVariants as entries
use Rattle.tree_dev.specs.declared.entry.Kind.{Kind}
use Rattle.tree_dev.specs.declared.entry.Kind.TheVariants as kinds
use Rattle.tree_dev.specs.declared.entry.ReadAnswer.{ReadAnswer}
use Rattle.tree_dev.specs.declared.entry.ReadAnswer.TheVariants as answers
use Rattle.tree_dev.specs.declared.entry.ListAnswer.{ListAnswer}
use Rattle.tree_dev.specs.declared.entry.ListAnswer.TheVariants as listings

abbrev pub FileTree : Type 0
FileTree = FinMap path_cmp Entry

-- what stands at a path
abbrev pub entry_at : FileTree → List (List ℕ) → Option Entry
entry_at t [] = Some entries.Folder
entry_at t (segment ∷ rest) = get t (segment ∷ rest)

abbrev pub kind_of : Option Entry → Kind
kind_of None = kinds.Absent
kind_of (Some (entries.File bytes)) = kinds.File
kind_of (Some entries.Folder) = kinds.Folder
kind_of (Some entries.Other) = kinds.Other

-- the kind of entry at a path
unfoldable pub kind_at : FileTree → List (List ℕ) → Kind
kind_at t path = kind_of (entry_at t path)

abbrev pub read_of : ℕ → Option Entry → ReadAnswer
read_of most None = answers.Absent
read_of most (Some (entries.File bytes)) = if nat_lt most (length bytes) then answers.TooLong else answers.Bytes bytes
read_of most (Some entries.Folder) = answers.NotFile
read_of most (Some entries.Other) = answers.NotFile

-- what reading a path with at most so many bytes answers
unfoldable pub read_at : FileTree → List (List ℕ) → ℕ → ReadAnswer
read_at t path most = read_of most (entry_at t path)

-- the segments of a path behind those of its head; None where the head's are not its first ones
abbrev pub behind : List (List ℕ) → List (List ℕ) → Option (List (List ℕ))
behind [] path = Some path
behind (first ∷ rest) [] = None
behind (first ∷ rest) (segment ∷ path) = if bytes_are_equal first segment then behind rest path else None

abbrev pub one_segment : Option (List (List ℕ)) → Option (List ℕ)
one_segment None = None
one_segment (Some []) = None
one_segment (Some (name ∷ [])) = Some name
one_segment (Some (name ∷ more ∷ rest)) = None

-- the names of the entries of a folder, in the order of their paths, which is byte order
unfoldable pub names_in : FileTree → List (List ℕ) → List (List ℕ)
names_in t folder = filter_map (λ path. one_segment (behind folder path)) (keys t)

abbrev pub list_of : FileTree → List (List ℕ) → ℕ → Option Entry → ListAnswer
list_of t path most None = listings.Absent
list_of t path most (Some (entries.File bytes)) = listings.NotFolder
list_of t path most (Some entries.Folder) = if nat_lt most (length (names_in t path)) then listings.TooMany else listings.Names (names_in t path)
list_of t path most (Some entries.Other) = listings.NotFolder

-- what listing a path with at most so many entries answers
unfoldable pub list_at : FileTree → List (List ℕ) → ℕ → ListAnswer
list_at t path most = list_of t path most (entry_at t path)

-- names of entries, each once and in byte order
pub record IsListing (names : List (List ℕ)) : Type 0 where
  pub segments : IsTrue (list_all is_segment names)
  pub ascending : IsStrictlySortedBy byte_cmp names

-- what is known of the answer of any tree
abbrev pub ListsNames : ListAnswer → Type 0
ListsNames (listings.Names names) = IsListing names
ListsNames listings.Absent = Unit {0}
ListsNames listings.NotFolder = Unit {0}
ListsNames listings.TooMany = Unit {0}

abbrev pub is_folder : Option Entry → Bool
is_folder None = false
is_folder (Some (entries.File bytes)) = false
is_folder (Some entries.Folder) = true
is_folder (Some entries.Other) = false

-- a folder stands at the path above
abbrev pub has_folder : FileTree → Option (List (List ℕ)) → Bool
has_folder t None = false
has_folder t (Some parent) = is_folder (entry_at t parent)

-- it can stand in a tree: at a path that is not the root, below a folder
abbrev pub is_placed : FileTree → List (List ℕ) → Bool
is_placed t path = list_all is_segment path && has_folder t (without_last path)

-- The map is a tree: every entry stands at a path below a folder, and there are fewer than 2^32.
unfoldable pub is_tree : FileTree → Bool
is_tree t = list_all (is_placed t) (keys t) && nat_lt (len t) (2 ^ 32)

-- the same in facts
pub record IsTree (t : FileTree) : Type 0 where
  pub paths : (path : List (List ℕ)) → contains_key t path ≡ true → IsPath path
  pub below_folders : (path : List (List ℕ)) → contains_key t path ≡ true → IsTrue (has_folder t (without_last path))
  pub few : len t < 2 ^ 32
