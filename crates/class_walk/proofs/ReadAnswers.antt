-- What the answers of looking at an entry, and of reading and listing it, say of it.
use Rattle.std.proofs.Common.{◌≡◌, ℕ, Bool, true, false, cond, List, length, Option, Some, None, is_some, refl, sym, ap, ◌∙◌, nat_lt}
use Rattle.tree_dev.specs.Trees.{FileTree, entry_at, kind_at, kind_of, read_at, read_of}
use Rattle.tree_dev.specs.Changes.{is_file}
use Rattle.tree_dev.specs.declared.entry.Entry.{Entry}
use Rattle.tree_dev.specs.declared.entry.Entry.TheVariants as entries
use Rattle.tree_dev.specs.declared.entry.Kind.TheVariants as kinds
use Rattle.tree_dev.specs.declared.entry.ReadAnswer.TheVariants as answers
use Rattle.tree_dev.specs.declared.limits.TheConstants.{FILE_BYTES}
use Rattle.class_walk.specs.Searches.{IsFileAt, IsNoFile}

-- ---- kinds

none_of : (e : Option Entry) → kinds.Absent ≡ kind_of e → e ≡ None
none_of None is = refl
none_of (Some (entries.File bytes)) is = absurd cc
none_of (Some entries.Folder) is = absurd cc
none_of (Some entries.Other) is = absurd cc

pub none_at : (t : FileTree) (at : List (List ℕ)) → kinds.Absent ≡ kind_at t at → entry_at t at ≡ None
unfolding kind_at
none_at t at is = none_of (entry_at t at) is

other_of : (e : Option Entry) → kinds.Other ≡ kind_of e → e ≡ Some entries.Other
other_of None is = absurd cc
other_of (Some (entries.File bytes)) is = absurd cc
other_of (Some entries.Folder) is = absurd cc
other_of (Some entries.Other) is = refl

pub other_at : (t : FileTree) (at : List (List ℕ)) → kinds.Other ≡ kind_at t at → entry_at t at ≡ Some entries.Other
unfolding kind_at
other_at t at is = other_of (entry_at t at) is

folder_of : (e : Option Entry) → kinds.Folder ≡ kind_of e → e ≡ Some entries.Folder
folder_of None is = absurd cc
folder_of (Some (entries.File bytes)) is = absurd cc
folder_of (Some entries.Folder) is = refl
folder_of (Some entries.Other) is = absurd cc

pub folder_at : (t : FileTree) (at : List (List ℕ)) → kinds.Folder ≡ kind_at t at → entry_at t at ≡ Some entries.Folder
unfolding kind_at
folder_at t at is = folder_of (entry_at t at) is

file_is : (e : Option Entry) → kinds.File ≡ kind_of e → (bytes : List ℕ) × (e ≡ Some (entries.File bytes))
file_is None is = absurd cc
file_is (Some (entries.File bytes)) is = (bytes, refl)
file_is (Some entries.Folder) is = absurd cc
file_is (Some entries.Other) is = absurd cc

pub file_at : (t : FileTree) (at : List (List ℕ)) → kinds.File ≡ kind_at t at → IsFileAt t at
unfolding kind_at
file_at t at is = file_is (entry_at t at) is

-- ---- what was read

-- a file of these bytes, which are not too many
pub record IsReadFile (e : Option Entry) (bytes : List ℕ) : Type 0 where
  pub file : e ≡ Some (entries.File bytes)
  pub fits : nat_lt FILE_BYTES (length bytes) ≡ false

file_by : (b bytes : List ℕ) (long : Bool) → nat_lt FILE_BYTES (length b) ≡ long → answers.Bytes bytes ≡ cond long answers.TooLong (answers.Bytes b) → IsReadFile (Some (entries.File b)) bytes
file_by b bytes true e is = absurd cc
file_by b bytes false e is =
    let same : bytes ≡ b = cc in
    record { file = ap (λ (x : List ℕ). Some (entries.File x)) (sym same); fits = ap (λ (x : List ℕ). nat_lt FILE_BYTES (length x)) same ∙ e }

file_of : (e : Option Entry) (bytes : List ℕ) → answers.Bytes bytes ≡ read_of FILE_BYTES e → IsReadFile e bytes
file_of None bytes is = absurd cc
file_of (Some (entries.File b)) bytes is = file_by b bytes (nat_lt FILE_BYTES (length b)) refl is
file_of (Some entries.Folder) bytes is = absurd cc
file_of (Some entries.Other) bytes is = absurd cc

pub read_file : (t : FileTree) (at : List (List ℕ)) (bytes : List ℕ) → answers.Bytes bytes ≡ read_at t at FILE_BYTES → IsReadFile (entry_at t at) bytes
unfolding read_at
read_file t at bytes is = file_of (entry_at t at) bytes is

no_file_of : (e : Option Entry) → answers.NotFile ≡ read_of FILE_BYTES e → (is_some e ≡ true) × (is_file e ≡ false)
no_file_of None is = absurd cc
no_file_of (Some (entries.File b)) is = by (nat_lt FILE_BYTES (length b)) is
  where
    by : (long : Bool) → answers.NotFile ≡ cond long answers.TooLong (answers.Bytes b) → (is_some (Some (entries.File b)) ≡ true) × (is_file (Some (entries.File b)) ≡ false)
    by true is = absurd cc
    by false is = absurd cc
no_file_of (Some entries.Folder) is = (refl, refl)
no_file_of (Some entries.Other) is = (refl, refl)

pub read_no_file : (t : FileTree) (at : List (List ℕ)) → answers.NotFile ≡ read_at t at FILE_BYTES → IsNoFile t at
unfolding read_at
read_no_file t at is = let h = no_file_of (entry_at t at) is in record { there = h.0; no_file = h.1 }

absent_of : (e : Option Entry) → answers.Absent ≡ read_of FILE_BYTES e → e ≡ None
absent_of None is = refl
absent_of (Some (entries.File b)) is = absurd (by (nat_lt FILE_BYTES (length b)) is)
  where
    by : (long : Bool) → answers.Absent ≡ cond long answers.TooLong (answers.Bytes b) → ⊥
    by true is = absurd cc
    by false is = absurd cc
absent_of (Some entries.Folder) is = absurd cc
absent_of (Some entries.Other) is = absurd cc

pub read_absent : (t : FileTree) (at : List (List ℕ)) → answers.Absent ≡ read_at t at FILE_BYTES → entry_at t at ≡ None
unfolding read_at
read_absent t at is = absent_of (entry_at t at) is

-- a file of so many bytes
pub record IsLongFile (e : Option Entry) : Type 0 where
  pub bytes : List ℕ
  pub file : e ≡ Some (entries.File bytes)
  pub long : nat_lt FILE_BYTES (length bytes) ≡ true

long_of : (e : Option Entry) → answers.TooLong ≡ read_of FILE_BYTES e → IsLongFile e
long_of None is = absurd cc
long_of (Some (entries.File b)) is = by (nat_lt FILE_BYTES (length b)) refl is
  where
    by : (long : Bool) → nat_lt FILE_BYTES (length b) ≡ long → answers.TooLong ≡ cond long answers.TooLong (answers.Bytes b) → IsLongFile (Some (entries.File b))
    by true e is = record { bytes = b; file = refl; long = e }
    by false e is = absurd cc
long_of (Some entries.Folder) is = absurd cc
long_of (Some entries.Other) is = absurd cc

pub read_long : (t : FileTree) (at : List (List ℕ)) → answers.TooLong ≡ read_at t at FILE_BYTES → IsLongFile (entry_at t at)
unfolding read_at
read_long t at is = long_of (entry_at t at) is
