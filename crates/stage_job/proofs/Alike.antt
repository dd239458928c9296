-- Trees that have the same at and below a path are checked and listed alike there.
use Rattle.std.proofs.Common.{◌≡◌, ℕ, zero, suc, ◌-◌, Bool, false, cond, List, [], ◌∷◌, ◌++◌, length, Option, is_some, Result, Ok, Err, refl, sym, ap, ◌∙◌, filter, nat_lt}
use Rattle.std.specs.FinMap as map
use Rattle.path_name.specs.Given.{◌>>=◌}
use Rattle.tree_dev.specs.Trees.{FileTree, entry_at, names_in}
use Rattle.tree_dev.specs.Changes.{is_root}
use Rattle.tree_dev.specs.declared.entry.Entry.{Entry}
use Rattle.tree_dev.specs.declared.limits.LimitKind.TheVariants as limits
use Rattle.tree_dev.proofs.NamesIn.{names_ascend, names_exactly}
use Rattle.tree_dev.proofs.Snoc.{not_root-append}
use Rattle.stage_job.specs.Checked.{Check, each_checked, deep_checked, entry_checked, folder_checked, kind_checked, package_checked, passes_all, passes_top, source_kind_checked}
use Rattle.stage_job.specs.declared.fault.StageFault.{StageFault}
use Rattle.stage_job.specs.declared.fault.StageFault.TheVariants as faults
use Rattle.tree_dev.specs.declared.limits.TheConstants.{DEPTH}
use Rattle.stage_job.proofs.Below.{child_path, entry_below_root}
use Rattle.stage_job.proofs.SortedNames.{sorted_same}

-- at and below a path both trees have the same
pub record IsAlike (at : List (List ℕ)) (t m : FileTree) : Type 0 where
  pub each : (below : List (List ℕ)) → map.get m (at ++ below) ≡ map.get t (at ++ below)

pub alike_child : (at : List (List ℕ)) (x : List ℕ) (t m : FileTree) → IsAlike at t m → IsAlike (at ++ x ∷ []) t m
alike_child at x t m alike = record { each = λ below. ap (map.get m) (child_path at x below) ∙ alike.each (x ∷ below) ∙ sym (ap (map.get t) (child_path at x below)) }

pub names_alike : (at : List (List ℕ)) (t m : FileTree) → IsAlike at t m → names_in m at ≡ names_in t at
names_alike at t m alike = sorted_same (names_in m at) (names_in t at) (names_ascend m at) (names_ascend t at)
    (λ n. names_exactly m at n ∙ ap is_some (alike.each (n ∷ [])) ∙ sym (names_exactly t at n))

pub entry_alike : (at : List (List ℕ)) (t m : FileTree) → is_root at ≡ false → IsAlike at t m → entry_at m at ≡ entry_at t at
entry_alike at t m below alike =
    entry_below_root m at below ∙ ap (map.get m) (sym (append_nil at)) ∙ alike.each [] ∙ ap (map.get t) (append_nil at) ∙ sym (entry_below_root t at below)
  where
    append_nil : (p : List (List ℕ)) → p ++ [] ≡ p
    append_nil [] = refl
    append_nil (x ∷ p) = ap (λ (q : List (List ℕ)). x ∷ q) (append_nil p)

bind_alike : (r : Result ℕ StageFault) (f g : ℕ → Result ℕ StageFault) → ((n : ℕ) → f n ≡ g n) → (r >>= f) ≡ (r >>= g)
bind_alike (Ok n) f g same = same n
bind_alike (Err fault) f g same = refl

pub each_alike : (first second : Check) (folder names : List (List ℕ)) (left : ℕ) → ((name : List ℕ) (left : ℕ) → first (folder ++ name ∷ []) left ≡ second (folder ++ name ∷ []) left)
    → each_checked first folder names left ≡ each_checked second folder names left
each_alike first second folder [] left same = refl
each_alike first second folder (name ∷ names) left same =
    ap (λ (r : Result ℕ StageFault). r >>= λ rest. each_checked first folder names rest) (same name left)
    ∙ bind_alike (second (folder ++ name ∷ []) left) (λ rest. each_checked first folder names rest) (λ rest. each_checked second folder names rest) (λ rest. each_alike first second folder names rest same)

-- a folder with given names
abbrev with_names : Check → (List ℕ → Bool) → List (List ℕ) → ℕ → List (List ℕ) → Result ℕ StageFault
with_names check passes folder left names =
    cond (nat_lt left (length names)) (Err (faults.Limit limits.Entries)) (each_checked check folder (filter passes names) (left - length names))

pub folder_alike : (first second : Check) (passes : List ℕ → Bool) (at : List (List ℕ)) (t m : FileTree) (left : ℕ) → IsAlike at t m
    → ((name : List ℕ) (left : ℕ) → first (at ++ name ∷ []) left ≡ second (at ++ name ∷ []) left)
    → folder_checked first passes m at left ≡ folder_checked second passes t at left
folder_alike first second passes at t m left alike same =
    ap (with_names first passes at left) (names_alike at t m alike)
    ∙ ap (cond (nat_lt left (length (names_in t at))) (Err (faults.Limit limits.Entries)))
    (each_alike first second at (filter passes (names_in t at)) (left - length (names_in t at)) same)

kinds_alike : (f g : Result ℕ StageFault) (at : List (List ℕ)) (d e : Option Entry) (left : ℕ) → f ≡ g → d ≡ e → kind_checked f at d left ≡ kind_checked g at e left
kinds_alike f g at d e left same here = ap (λ (r : Result ℕ StageFault). kind_checked r at d left) same ∙ ap (λ (x : Option Entry). kind_checked g at x left) here

pub checked_alike : (levels : ℕ) (at : List (List ℕ)) (t m : FileTree) (left : ℕ) → is_root at ≡ false → IsAlike at t m → entry_checked levels m at left ≡ entry_checked levels t at left
unfolding entry_checked
checked_alike zero at t m left below alike = ap (λ (x : Option Entry). deep_checked at x left) (entry_alike at t m below alike)
checked_alike (suc levels) at t m left below alike =
    kinds_alike _ _ at _ _ left
    (folder_alike (entry_checked levels m) (entry_checked levels t) passes_all at t m left alike
    (λ name rest. checked_alike levels (at ++ name ∷ []) t m rest (not_root-append at (name ∷ []) below) (alike_child at name t m alike)))
    (entry_alike at t m below alike)

sources_alike : (f g : Result ℕ StageFault) (at : List (List ℕ)) (d e : Option Entry) → f ≡ g → d ≡ e → source_kind_checked f at d ≡ source_kind_checked g at e
sources_alike f g at d e same here = ap (λ (r : Result ℕ StageFault). source_kind_checked r at d) same ∙ ap (λ (x : Option Entry). source_kind_checked g at x) here

pub package_alike : (at : List (List ℕ)) (t m : FileTree) (left : ℕ) → is_root at ≡ false → IsAlike at t m → package_checked m at left ≡ package_checked t at left
unfolding package_checked
package_alike at t m left below alike =
    sources_alike _ _ at _ _
    (folder_alike (entry_checked DEPTH m) (entry_checked DEPTH t) passes_top at t m left alike
    (λ name rest. checked_alike DEPTH (at ++ name ∷ []) t m rest (not_root-append at (name ∷ []) below) (alike_child at name t m alike)))
    (entry_alike at t m below alike)
