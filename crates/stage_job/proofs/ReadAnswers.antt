-- What the answers of reading and listing an entry say of the check of it.
use Rattle.std.proofs.Common.{◌≡◌, ℕ, zero, suc, ◌-◌, ◌<◌, ◌≤◌, Bool, true, false, cond, List, [], ◌∷◌, ◌++◌, length, filter, Option, Some, None, is_some, Result, Ok, Err, refl, sym, ap, ◌∙◌, append-nil, arith, nat_lt}
use Rattle.std.proofs.lemmas.Bool.Decides.{nat_tests}
use Rattle.std.specs.FinMap as map
use Rattle.path_name.specs.Paths.{without_last}
use Rattle.tree_dev.specs.Trees.{FileTree, IsTree, entry_at, has_folder, is_folder, names_in, read_at, read_of}
use Rattle.tree_dev.specs.Changes.{is_file, is_leaf, is_root}
use Rattle.tree_dev.specs.declared.entry.Entry.{Entry}
use Rattle.tree_dev.specs.declared.entry.Entry.TheVariants as entries
use Rattle.tree_dev.specs.declared.entry.ReadAnswer.TheVariants as answers
use Rattle.tree_dev.specs.declared.limits.LimitKind.TheVariants as limits
use Rattle.tree_dev.specs.declared.limits.TheConstants.{FILE_BYTES}
use Rattle.tree_dev.proofs.Carried.{free_below}
use Rattle.tree_dev.proofs.Snoc.{not_root-append, without_last-snoc}
use Rattle.stage_job.specs.Checked.{Check, each_checked, deep_checked, entry_checked, folder_checked, kind_checked, passes_all, source_kind_checked}
use Rattle.stage_job.specs.Copied.{IsListed, IsNoFile, IsTooLarge}
use Rattle.stage_job.specs.Jobs.{file_alone}
use Rattle.stage_job.specs.Staged.{Puts}
use Rattle.stage_job.specs.declared.fault.StageFault.{StageFault}
use Rattle.stage_job.specs.declared.fault.StageFault.TheVariants as faults
use Rattle.stage_job.proofs.Below.{child_path, entry_below_root}

-- ---- what was read

-- a file of these bytes, which are not too many
pub record IsReadFile (e : Option Entry) (bytes : List ℕ) : Type 0 where
  pub file : e ≡ Some (entries.File bytes)
  pub fits : nat_lt FILE_BYTES (length bytes) ≡ false

file_by : (b bytes : List ℕ) (long : Bool) → nat_lt FILE_BYTES (length b) ≡ long → answers.Bytes bytes ≡ cond long answers.TooLong (answers.Bytes b) → IsReadFile (Some (entries.File b)) bytes
file_by b bytes true e is = absurd cc
file_by b bytes false e is =
    let same : bytes ≡ b = cc in
    record { file = ap (λ (x : List ℕ). Some (entries.File x)) (sym same); fits = ap (λ (x : List ℕ). nat_lt FILE_BYTES (length x)) same ∙ e }

file_of : (e : Option Entry) (bytes : List ℕ) → answers.Bytes bytes ≡ read_of FILE_BYTES e → IsReadFile e bytes
file_of None bytes is = absurd cc
file_of (Some (entries.File b)) bytes is = file_by b bytes (nat_lt FILE_BYTES (length b)) refl is
file_of (Some entries.Folder) bytes is = absurd cc
file_of (Some entries.Other) bytes is = absurd cc

pub read_file : (t : FileTree) (at : List (List ℕ)) (bytes : List ℕ) → answers.Bytes bytes ≡ read_at t at FILE_BYTES → IsReadFile (entry_at t at) bytes
unfolding read_at
read_file t at bytes is = file_of (entry_at t at) bytes is

no_file_of : (e : Option Entry) → answers.NotFile ≡ read_of FILE_BYTES e → (is_some e ≡ true) × (is_file e ≡ false)
no_file_of None is = absurd cc
no_file_of (Some (entries.File b)) is = by (nat_lt FILE_BYTES (length b)) is
  where
    by : (long : Bool) → answers.NotFile ≡ cond long answers.TooLong (answers.Bytes b) → (is_some (Some (entries.File b)) ≡ true) × (is_file (Some (entries.File b)) ≡ false)
    by true is = absurd cc
    by false is = absurd cc
no_file_of (Some entries.Folder) is = (refl, refl)
no_file_of (Some entries.Other) is = (refl, refl)

pub read_no_file : (t : FileTree) (at : List (List ℕ)) → answers.NotFile ≡ read_at t at FILE_BYTES → IsNoFile at t
unfolding read_at
read_no_file t at is = let h = no_file_of (entry_at t at) is in record { there = h.0; no_file = h.1 }

absent_of : (e : Option Entry) → answers.Absent ≡ read_of FILE_BYTES e → is_some e ≡ true → ⊥
absent_of None is there = absurd cc
absent_of (Some (entries.File b)) is there = by (nat_lt FILE_BYTES (length b)) is
  where
    by : (long : Bool) → answers.Absent ≡ cond long answers.TooLong (answers.Bytes b) → ⊥
    by true is = absurd cc
    by false is = absurd cc
absent_of (Some entries.Folder) is there = absurd cc
absent_of (Some entries.Other) is there = absurd cc

pub read_absent : (t : FileTree) (at : List (List ℕ)) → answers.Absent ≡ read_at t at FILE_BYTES → is_some (entry_at t at) ≡ true → ⊥
unfolding read_at
read_absent t at is there = absent_of (entry_at t at) is there

-- a file of so many bytes
pub record IsLongFile (e : Option Entry) : Type 0 where
  pub bytes : List ℕ
  pub file : e ≡ Some (entries.File bytes)
  pub long : nat_lt FILE_BYTES (length bytes) ≡ true

long_of : (e : Option Entry) → answers.TooLong ≡ read_of FILE_BYTES e → IsLongFile e
long_of None is = absurd cc
long_of (Some (entries.File b)) is = by (nat_lt FILE_BYTES (length b)) refl is
  where
    by : (long : Bool) → nat_lt FILE_BYTES (length b) ≡ long → answers.TooLong ≡ cond long answers.TooLong (answers.Bytes b) → IsLongFile (Some (entries.File b))
    by true e is = record { bytes = b; file = refl; long = e }
    by false e is = absurd cc
long_of (Some entries.Folder) is = absurd cc
long_of (Some entries.Other) is = absurd cc

pub read_long : (t : FileTree) (at : List (List ℕ)) → answers.TooLong ≡ read_at t at FILE_BYTES → IsLongFile (entry_at t at)
unfolding read_at
read_long t at is = long_of (entry_at t at) is

-- ---- what the check of an entry is

pub deep_check : (levels : ℕ) (t : FileTree) (at : List (List ℕ)) (left : ℕ) → levels ≡ 0 → entry_checked levels t at left ≡ deep_checked at (entry_at t at) left
unfolding entry_checked
deep_check zero t at left e = refl
deep_check (suc levels) t at left e = absurd (omega arith)

pub folder_check : (levels : ℕ) (t : FileTree) (at : List (List ℕ)) (left : ℕ) → (levels ≡ 0 → ⊥)
    → entry_checked levels t at left ≡ kind_checked (folder_checked (entry_checked (levels - 1) t) passes_all t at left) at (entry_at t at) left
unfolding entry_checked
folder_check zero t at left some = absurd (some refl)
folder_check (suc levels) t at left some =
    let one : suc levels - 1 ≡ levels = omega arith in
    rw one refl

pub file_check : (levels : ℕ) (t : FileTree) (at : List (List ℕ)) (left : ℕ) (bytes : List ℕ) → (levels ≡ 0 → ⊥) → IsReadFile (entry_at t at) bytes → entry_checked levels t at left ≡ Ok left
file_check levels t at left bytes some file =
    folder_check levels t at left some
    ∙ ap (λ (e : Option Entry). kind_checked (folder_checked (entry_checked (levels - 1) t) passes_all t at left) at e left) file.file
    ∙ ap (λ (b : Bool). cond b (Err (faults.Limit (limits.FileBytes at))) (Ok left)) file.fits

pub long_check : (levels : ℕ) (t : FileTree) (at : List (List ℕ)) (left : ℕ) → (levels ≡ 0 → ⊥) → IsLongFile (entry_at t at)
    → entry_checked levels t at left ≡ Err (faults.Limit (limits.FileBytes at))
long_check levels t at left some file =
    folder_check levels t at left some
    ∙ ap (λ (e : Option Entry). kind_checked (folder_checked (entry_checked (levels - 1) t) passes_all t at left) at e left) file.file
    ∙ ap (λ (b : Bool). cond b (Err (faults.Limit (limits.FileBytes at))) (Ok left)) file.long

-- ---- a file copied

none_from : (o : Option Entry) → (is_some o ≡ true → ⊥) → o ≡ None
none_from None never = refl
none_from (Some x) never = absurd (never refl)

-- below a file stands nothing
pub below_file : (t : FileTree) (at : List (List ℕ)) (bytes : List ℕ) → IsTree t → is_root at ≡ false → entry_at t at ≡ Some (entries.File bytes)
    → (x : List ℕ) (rest : List (List ℕ)) → map.get t (at ++ x ∷ rest) ≡ None
below_file t at bytes tree below file x rest =
    ap (map.get t) (sym (child_path at x rest))
    ∙ free_below t (at ++ x ∷ []) tree (not_root-append at (x ∷ []) below) (none_from (map.get t (at ++ x ∷ [])) no_child) rest
  where
    no_child : is_some (map.get t (at ++ x ∷ [])) ≡ true → ⊥
    no_child has =
        let above : has_folder t (without_last (at ++ x ∷ [])) ≡ true = tree.below_folders (at ++ x ∷ []) has in
        let here : is_folder (entry_at t at) ≡ true = ap (has_folder t) (sym (without_last-snoc at x)) ∙ above in
        let file_here : is_folder (entry_at t at) ≡ false = ap is_folder file in
        absurd cc

pub file_copied : (t : FileTree) (from : List (List ℕ)) (bytes : List ℕ) → IsTree t → is_root from ≡ false → entry_at t from ≡ Some (entries.File bytes)
    → (below : List (List ℕ)) → file_alone bytes below ≡ map.get t (from ++ below)
file_copied t from bytes tree below file [] = sym (ap (map.get t) (append-nil from) ∙ sym (entry_below_root t from below) ∙ file)
file_copied t from bytes tree below file (x ∷ rest) = sym (below_file t from bytes tree below file x rest)

pub puts_same : (at : List (List ℕ)) (what other : List (List ℕ) → Option Entry) (t u : FileTree) → ((below : List (List ℕ)) → what below ≡ other below) → Puts at what t u → Puts at other t u
puts_same at what other t u same puts = record { put = λ below. puts.put below ∙ same below; elsewhere = puts.elsewhere }

-- ---- a folder listed

not_less : (m n : ℕ) → m ≤ n → nat_lt n m ≡ false
not_less m n le = grind (arith, nat_tests)

is_less : (m n : ℕ) → n < m → nat_lt n m ≡ true
is_less m n lt = grind (arith, nat_tests)

pub listed_check : (check : Check) (passes : List ℕ → Bool) (t : FileTree) (at names : List (List ℕ)) (before after : ℕ) → IsListed t at names before after
    → folder_checked check passes t at before ≡ each_checked check at (filter passes names) after
listed_check check passes t at names before after is =
    ap (λ (b : Bool). cond b (Err (faults.Limit limits.Entries)) (each_checked check at (filter passes (names_in t at)) (before - length (names_in t at)))) (not_less (length (names_in t at)) before is.few)
    ∙ ap (λ (ns : List (List ℕ)). each_checked check at (filter passes ns) (before - length (names_in t at))) (sym is.names_are)
    ∙ ap (each_checked check at (filter passes names)) (sym is.counted)

pub large_check : (check : Check) (passes : List ℕ → Bool) (t : FileTree) (at : List (List ℕ)) (before : ℕ) → IsTooLarge t at before
    → folder_checked check passes t at before ≡ Err (faults.Limit limits.Entries)
large_check check passes t at before is =
    ap (λ (b : Bool). cond b (Err (faults.Limit limits.Entries)) (each_checked check at (filter passes (names_in t at)) (before - length (names_in t at)))) (is_less (length (names_in t at)) before is.many)

pub all_pass : (names : List (List ℕ)) → filter passes_all names ≡ names
all_pass [] = refl
all_pass (name ∷ names) = ap (λ (more : List (List ℕ)). name ∷ more) (all_pass names)

other_of : (e : Option Entry) → is_leaf e ≡ true → is_file e ≡ false → e ≡ Some entries.Other
other_of None leaf no_file = absurd cc
other_of (Some (entries.File bytes)) leaf no_file = absurd cc
other_of (Some entries.Folder) leaf no_file = absurd cc
other_of (Some entries.Other) leaf no_file = refl

pub other_check : (folder : Result ℕ StageFault) (at : List (List ℕ)) (e : Option Entry) (left : ℕ) → is_leaf e ≡ true → is_file e ≡ false → kind_checked folder at e left ≡ Err (faults.OtherEntry at)
other_check folder at e left leaf no_file = ap (λ (x : Option Entry). kind_checked folder at x left) (other_of e leaf no_file)

pub leaf_source : (folder : Result ℕ StageFault) (at : List (List ℕ)) (e : Option Entry) → is_leaf e ≡ true → source_kind_checked folder at e ≡ Err (faults.OtherEntry at)
leaf_source folder at None leaf = absurd cc
leaf_source folder at (Some (entries.File bytes)) leaf = refl
leaf_source folder at (Some entries.Folder) leaf = absurd cc
leaf_source folder at (Some entries.Other) leaf = refl
