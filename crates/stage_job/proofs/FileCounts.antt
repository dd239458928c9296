-- The files of a part: what a file and a folder count, and that trees which have the same at and below a path have as many
-- files there.
use Rattle.std.proofs.Common.{◌≡◌, ℕ, zero, suc, ◌+◌, ◌-◌, Bool, false, cond, List, [], ◌∷◌, ◌++◌, Option, Some, refl, sym, ap, ◌∙◌, filter, arith}
use Rattle.std.proofs.lemmas.List.Sums.{sum_by-cons}
use Rattle.std.specs.Prelude.{sum_by}
use Rattle.tree_dev.specs.Trees.{FileTree, entry_at, names_in}
use Rattle.tree_dev.specs.Changes.{is_file, is_root}
use Rattle.tree_dev.specs.declared.entry.Entry.{Entry}
use Rattle.tree_dev.specs.declared.entry.Entry.TheVariants as entries
use Rattle.tree_dev.specs.declared.limits.TheConstants.{DEPTH}
use Rattle.tree_dev.proofs.Snoc.{not_root-append, not_root_behind}
use Rattle.stage_job.specs.Checked.{passes_top}
use Rattle.stage_job.specs.Above.{MakesFolders}
use Rattle.stage_job.specs.Jobs.{AreApart, AreInner, AreParts, CanCopy, CanPut, CanPutLeaf}
use Rattle.stage_job.specs.Parts.{IsLeafApart}
use Rattle.stage_job.specs.Staged.{Puts}
use Rattle.stage_job.specs.Written.{entry_files, files_of_names, inner_files, job_files, leaf_files, package_files, part_files}
use Rattle.stage_job.specs.declared.job.Inner.{Inner}
use Rattle.stage_job.specs.declared.job.Leaf.{Leaf}
use Rattle.stage_job.specs.declared.job.Leaf.TheVariants as leaves
use Rattle.stage_job.specs.declared.job.Part.{Part}
use Rattle.stage_job.specs.declared.job.Source.{Source}
use Rattle.stage_job.specs.declared.job.Source.TheVariants as sources
use Rattle.stage_job.proofs.Alike.{IsAlike, alike_child, entry_alike, names_alike}
use Rattle.stage_job.proofs.CopySteps.{source_kept}
use Rattle.stage_job.proofs.InnerSteps.{source_stays}
use Rattle.stage_job.proofs.PartSteps.{AreAlike}

-- sums whose terms are the same
pub sum_by_same : {X : Type 0} (f g : X → ℕ) (xs : List X) → ((x : X) → f x ≡ g x) → sum_by f xs ≡ sum_by g xs
sum_by_same f g [] same = refl
sum_by_same f g (x ∷ xs) same =
    sum_by-cons f x xs ∙ ap (λ (n : ℕ). n + sum_by f xs) (same x) ∙ ap (λ (n : ℕ). g x + n) (sum_by_same f g xs same) ∙ sym (sum_by-cons g x xs)

-- a file counts one
pub one_file : (levels : ℕ) (t : FileTree) (at : List (List ℕ)) (bytes : List ℕ) → (levels ≡ 0 → ⊥) → entry_at t at ≡ Some (entries.File bytes) → 1 ≡ entry_files levels t at
unfolding entry_files
one_file zero t at bytes some file = absurd (some refl)
one_file (suc levels) t at bytes some file = sym (ap (λ (e : Option Entry). cond (is_file e) 1 (files_of_names levels t at (names_in t at))) file)

-- and a folder what its names count
pub folder_files : (levels : ℕ) (t : FileTree) (at : List (List ℕ)) → (levels ≡ 0 → ⊥) → is_file (entry_at t at) ≡ false → files_of_names (levels - 1) t at (names_in t at) ≡ entry_files levels t at
unfolding entry_files
folder_files zero t at some no_file = absurd (some refl)
folder_files (suc levels) t at some no_file =
    let one : suc levels - 1 ≡ levels = omega arith in
    ap (λ (n : ℕ). files_of_names n t at (names_in t at)) one ∙ sym (ap (λ (b : Bool). cond b 1 (files_of_names levels t at (names_in t at))) no_file)

pub files_alike : (levels : ℕ) (at : List (List ℕ)) (t m : FileTree) → is_root at ≡ false → IsAlike at t m → entry_files levels m at ≡ entry_files levels t at
unfolding entry_files
files_alike zero at t m below alike = refl
files_alike (suc levels) at t m below alike =
    ap (λ (e : Option Entry). cond (is_file e) 1 (sum_by (λ name. entry_files levels m (at ++ name ∷ [])) (names_in m at))) (entry_alike at t m below alike)
    ∙ ap (cond (is_file (entry_at t at)) 1)
    (ap (sum_by (λ name. entry_files levels m (at ++ name ∷ []))) (names_alike at t m alike)
    ∙ sum_by_same (λ name. entry_files levels m (at ++ name ∷ [])) (λ name. entry_files levels t (at ++ name ∷ [])) (names_in t at)
    (λ name. files_alike levels (at ++ name ∷ []) t m (not_root-append at (name ∷ []) below) (alike_child at name t m alike)))

pub names_files_alike : (levels : ℕ) (at names : List (List ℕ)) (t m : FileTree) → is_root at ≡ false → IsAlike at t m → files_of_names levels m at names ≡ files_of_names levels t at names
names_files_alike levels at names t m below alike =
    sum_by_same (λ name. entry_files levels m (at ++ name ∷ [])) (λ name. entry_files levels t (at ++ name ∷ [])) names
    (λ name. files_alike levels (at ++ name ∷ []) t m (not_root-append at (name ∷ []) below) (alike_child at name t m alike))

pub package_files_alike : (at : List (List ℕ)) (t m : FileTree) → is_root at ≡ false → IsAlike at t m → package_files m at ≡ package_files t at
unfolding package_files
package_files_alike at t m below alike =
    ap (λ (names : List (List ℕ)). files_of_names DEPTH m at (filter passes_top names)) (names_alike at t m alike)
    ∙ names_files_alike DEPTH at (filter passes_top (names_in t at)) t m below alike

-- ---- jobs

module _ (project : List (List ℕ)) (t m : FileTree) (alike : AreAlike project t m) where
  source_files : (source : List (List ℕ)) → CanCopy project source → package_files m source ≡ package_files t source
  source_files source can = package_files_alike source t m (not_root_behind source project can.not_above) (alike source can)

  leaf_files_alike : (leaf : Leaf) → CanPutLeaf project leaf → leaf_files m leaf ≡ leaf_files t leaf
  leaf_files_alike (leaves.Copy source) can = source_files source can
  leaf_files_alike (leaves.Bytes bytes) can = refl

  inner_files_alike : (inner : List Inner) → AreInner project inner → inner_files m inner ≡ inner_files t inner
  inner_files_alike [] all = refl
  inner_files_alike (part ∷ inner) all =
      sum_by-cons (λ part. leaf_files m part.from) part inner ∙ ap (λ (n : ℕ). n + inner_files m inner) (leaf_files_alike part.from all.0)
      ∙ ap (λ (n : ℕ). leaf_files t part.from + n) (inner_files_alike inner all.3) ∙ sym (sum_by-cons (λ part. leaf_files t part.from) part inner)

  pub part_files_alike : (source : Source) → CanPut project source → part_files m source ≡ part_files t source
  part_files_alike (sources.Copy source) can = source_files source can
  part_files_alike (sources.Bytes bytes) can = refl
  part_files_alike (sources.Folder inner) can = inner_files_alike inner can
  part_files_alike sources.Gone can = refl

  pub job_files_alike : (parts : List Part) → AreParts project parts → job_files m parts ≡ job_files t parts
  unfolding job_files
  job_files_alike [] all = refl
  job_files_alike (part ∷ parts) all =
      sum_by-cons (λ part. part_files m part.from) part parts ∙ ap (λ (n : ℕ). n + sum_by (λ part. part_files m part.from) parts) (part_files_alike part.from all.1)
      ∙ ap (λ (n : ℕ). part_files t part.from + n) (job_files_alike parts all.3) ∙ sym (sum_by-cons (λ part. part_files t part.from) part parts)

-- ---- what was put elsewhere

-- an entry of a folder, while others are copied into another folder
pub child_files : (levels : ℕ) (from to : List (List ℕ)) (x : List ℕ) (t m : FileTree) {what : List (List ℕ) → Option Entry} → AreApart from to → Puts to what t m
    → entry_files levels m (from ++ x ∷ []) ≡ entry_files levels t (from ++ x ∷ [])
child_files levels from to x t m {what} apart puts =
    files_alike levels (from ++ x ∷ []) t m (not_root-append from (x ∷ []) (not_root_behind from to apart.0)) (alike_child from x t m (source_kept from to t m what apart puts))

-- a part of a folder, while others are put into it
pub leaf_files_kept : (leaf : Leaf) (to : List (List ℕ)) (t m : FileTree) {what : List (List ℕ) → Option Entry} → IsLeafApart leaf to → Puts to what t m → leaf_files m leaf ≡ leaf_files t leaf
leaf_files_kept (leaves.Copy source) to t m {what} apart puts = package_files_alike source t m (not_root_behind source to apart.0) (source_kept source to t m what apart puts)
leaf_files_kept (leaves.Bytes bytes) to t m {what} apart puts = refl

-- and while folders are made on the way to it
pub leaf_files_way : (leaf : Leaf) (to names : List (List ℕ)) (t m : FileTree) → IsLeafApart leaf to → MakesFolders to names t m → leaf_files m leaf ≡ leaf_files t leaf
leaf_files_way (leaves.Copy source) to names t m apart made = package_files_alike source t m (not_root_behind source to apart.0) (source_stays t m to names made source apart)
leaf_files_way (leaves.Bytes bytes) to names t m apart made = refl
