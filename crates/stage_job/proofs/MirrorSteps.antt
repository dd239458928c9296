-- Folders that are copied: what listing them, making their copies and copying their names give together.
use Rattle.std.proofs.Common.{◌≡◌, ℕ, false, cond, List, [], ◌∷◌, ◌++◌, Option, Some, None, is_some, Err, filter, refl, sym, ap, ◌∙◌}
use Rattle.std.specs.FinMap as map
use Rattle.tree_dev.specs.Trees.{FileTree, IsTree, entry_at, names_in}
use Rattle.tree_dev.specs.declared.entry.Entry.{Entry}
use Rattle.tree_dev.specs.declared.entry.Entry.TheVariants as entries
use Rattle.tree_dev.specs.declared.limits.LimitKind.{LimitKind}
use Rattle.stage_job.specs.Checked.{Check, each_checked, entry_checked, folder_checked, kind_checked, passes_all, passes_top, source_kind_checked}
use Rattle.stage_job.specs.Copied.{AreThere, IsListed, IsNoFile, Lists, folder_alone, is_among, names_entry}
use Rattle.stage_job.specs.Faults.{Refuses, refused}
use Rattle.stage_job.specs.Jobs.{AreApart}
use Rattle.stage_job.specs.Staged.{Puts}
use Rattle.stage_job.specs.declared.fault.StageFault.{StageFault}
use Rattle.stage_job.specs.declared.fault.StageFault.TheVariants as faults
use Rattle.tree_dev.proofs.Snoc.{not_root-append, not_root_behind}
use Rattle.stage_job.proofs.Alike.{IsAlike, alike_child, checked_alike, each_alike}
use Rattle.stage_job.proofs.CopySteps.{all_names, listed_there, source_kept, there_alike}
use Rattle.stage_job.proofs.NameLoop.{top_names, top_there}
use Rattle.stage_job.proofs.ReadAnswers.{large_check, leaf_source, listed_check, other_check, puts_same}
use Rattle.stage_job.specs.Mirrored.{mirrored}

-- a listing that is refused
pub list_refusal : (check : Check) (t : FileTree) (at : List (List ℕ)) (before after : ℕ) (fault : StageFault) → IsNoFile at t → Lists t at before after (Err fault)
    → Refuses fault (kind_checked (folder_checked check passes_all t at before) at (entry_at t at) before)
list_refusal check t at before after faults.DeviceFault no_file lists = tt
list_refusal check t at before after faults.OutOfMemory no_file lists = tt
list_refusal check t at before after (faults.MissingPath text) no_file lists = absurd lists
list_refusal check t at before after (faults.Vanished path) no_file lists = absurd lists
list_refusal check t at before after (faults.OtherEntry path) no_file lists =
    other_check (folder_checked check passes_all t at before) at (entry_at t at) before lists.1 no_file.no_file ∙ ap (λ (p : List (List ℕ)). refused (faults.OtherEntry p)) (sym lists.0)
list_refusal check t at before after (faults.Limit kind) no_file lists =
    ap (λ (e : Option Entry). kind_checked (folder_checked check passes_all t at before) at e before) lists.1.folder
    ∙ large_check check passes_all t at before lists.1 ∙ ap (λ (k : LimitKind). refused (faults.Limit k)) (sym lists.0)

-- the same of the folder of a package
pub package_refusal : (check : Check) (t : FileTree) (at : List (List ℕ)) (before after : ℕ) (fault : StageFault) → Lists t at before after (Err fault)
    → Refuses fault (source_kind_checked (folder_checked check passes_top t at before) at (entry_at t at))
package_refusal check t at before after faults.DeviceFault lists = tt
package_refusal check t at before after faults.OutOfMemory lists = tt
package_refusal check t at before after (faults.MissingPath text) lists = absurd lists
package_refusal check t at before after (faults.Vanished path) lists = absurd lists
package_refusal check t at before after (faults.OtherEntry path) lists =
    leaf_source (folder_checked check passes_top t at before) at (entry_at t at) lists.1 ∙ ap (λ (p : List (List ℕ)). refused (faults.OtherEntry p)) (sym lists.0)
package_refusal check t at before after (faults.Limit kind) lists =
    ap (λ (e : Option Entry). source_kind_checked (folder_checked check passes_top t at before) at e) lists.1.folder
    ∙ large_check check passes_top t at before lists.1 ∙ ap (λ (k : LimitKind). refused (faults.Limit k)) (sym lists.0)

pub not_none : (t : FileTree) (at : List (List ℕ)) → IsNoFile at t → entry_at t at ≡ None → ⊥
not_none t at no_file none = let here : is_some (entry_at t at) ≡ false = ap is_some none in let there = no_file.there in absurd cc

-- a folder that is listed is checked by its names
pub listed_kind : (check : Check) (t : FileTree) (at names : List (List ℕ)) (before after : ℕ) → IsListed t at names before after
    → kind_checked (folder_checked check passes_all t at before) at (entry_at t at) before ≡ each_checked check at (filter passes_all names) after
listed_kind check t at names before after is =
    ap (λ (e : Option Entry). kind_checked (folder_checked check passes_all t at before) at e before) is.folder ∙ listed_check check passes_all t at names before after is

pub listed_source : (check : Check) (t : FileTree) (at names : List (List ℕ)) (before after : ℕ) → IsListed t at names before after
    → source_kind_checked (folder_checked check passes_top t at before) at (entry_at t at) ≡ each_checked check at (filter passes_top names) after
listed_source check t at names before after is =
    ap (λ (e : Option Entry). source_kind_checked (folder_checked check passes_top t at before) at e) is.folder ∙ listed_check check passes_top t at names before after is

-- the folder made, and then its names: what stands there is theirs, over the tree before both
pub folder_then_names : (from to names : List (List ℕ)) (t m u : FileTree) → AreApart from to → Puts to folder_alone t m → Puts to (names_entry m from names) m u → Puts to (names_entry t from names) t u
folder_then_names from to names t m u apart made puts = record {
  put = λ below. puts.put below ∙ by below;
  elsewhere = λ path out. puts.elsewhere path out ∙ made.elsewhere path out;
}
  where
    alike : IsAlike from t m
    alike = source_kept from to t m folder_alone apart made

    by : (below : List (List ℕ)) → names_entry m from names below ≡ names_entry t from names below
    by [] = refl
    by (n ∷ rest) = ap (λ (e : Option Entry). cond (is_among n names) e None) (alike.each (n ∷ rest))

module _ (levels : ℕ) (from to : List (List ℕ)) (t m : FileTree) (apart : AreApart from to) (made : Puts to folder_alone t m) where
  source_alike : IsAlike from t m
  source_alike = source_kept from to t m folder_alone apart made

  -- names are checked as over the tree before
  pub names_checked : (names : List (List ℕ)) (left : ℕ) → each_checked (entry_checked levels m) from names left ≡ each_checked (entry_checked levels t) from names left
  names_checked names left = each_alike (entry_checked levels m) (entry_checked levels t) from names left (λ name rest.
      checked_alike levels (from ++ name ∷ []) t m rest (not_root-append from (name ∷ []) (not_root_behind from to apart.0)) (alike_child from name t m source_alike))

  pub names_there : (names : List (List ℕ)) → names ≡ names_in t from → AreThere m from names
  names_there names is = there_alike t m from names source_alike (rw is (listed_there t from))

  pub top_names_there : (names : List (List ℕ)) → names ≡ names_in t from → AreThere m from (filter passes_top names)
  top_names_there names is = there_alike t m from (filter passes_top names) source_alike (rw is (top_there t from (names_in t from) (listed_there t from)))

-- a whole folder is copied
pub folder_copied : (from to names : List (List ℕ)) (t m u : FileTree) → AreApart from to → IsTree t → entry_at t from ≡ Some entries.Folder → names ≡ names_in t from → Puts to folder_alone t m → Puts to (names_entry m from names) m u
    → Puts to (λ below. map.get t (from ++ below)) t u
folder_copied from to names t m u apart tree folder is made puts =
    puts_same to (names_entry t from names) (λ below. map.get t (from ++ below)) t u
    (λ below. ap (λ (ns : List (List ℕ)). names_entry t from ns below) is ∙ all_names t from tree (not_root_behind from to apart.0) folder below)
    (folder_then_names from to names t m u apart made puts)

pub package_copied : (from to names : List (List ℕ)) (t m u : FileTree) → AreApart from to → IsTree t → entry_at t from ≡ Some entries.Folder → names ≡ names_in t from → Puts to folder_alone t m → Puts to (names_entry m from (filter passes_top names)) m u
    → Puts to (mirrored t from) t u
package_copied from to names t m u apart tree folder is made puts =
    puts_same to (names_entry t from (filter passes_top names)) (mirrored t from) t u
    (λ below. ap (λ (ns : List (List ℕ)). names_entry t from (filter passes_top ns) below) is ∙ top_names t from tree (not_root_behind from to apart.0) folder below)
    (folder_then_names from to (filter passes_top names) t m u apart made puts)
