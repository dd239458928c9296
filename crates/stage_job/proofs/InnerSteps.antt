-- One part of a folder: the folders above it, and then the part.
use Rattle.std.proofs.Common.{◌≡◌, ℕ, List, [], ◌∷◌, ◌++◌, false, cond, Option, Some, None, is_some, refl, sym, ap, subst, ◌∙◌, inl, append_assoc, append-nil}
use Rattle.std.specs.FinMap as map
use Rattle.path_name.specs.Paths.{without_last}
use Rattle.tree_dev.specs.Trees.{FileTree, behind, entry_at, has_folder, is_folder}
use Rattle.tree_dev.specs.Steady.{IsStaged}
use Rattle.tree_dev.specs.declared.entry.Entry.{Entry}
use Rattle.tree_dev.specs.declared.entry.Entry.TheVariants as entries
use Rattle.tree_dev.proofs.Behind.{behind_head, head_behind}
use Rattle.tree_dev.proofs.Snoc.{IsSnoc, not_behind_itself, not_root_behind, without_last-snoc}
use Rattle.stage_job.specs.Above.{CanMakeWay, HasWay, MakesFolders, begins_names, front_of, is_front}
use Rattle.stage_job.specs.Checked.{leaf_checked}
use Rattle.stage_job.specs.Copied.{IsInNew}
use Rattle.stage_job.specs.Jobs.{AreApart, inner_or, is_itself, leaf_entry}
use Rattle.stage_job.specs.Mirrored.{is_mirrored}
use Rattle.stage_job.specs.Parts.{IsLeafApart, PutsInner}
use Rattle.stage_job.specs.Staged.{IsFree, Puts}
use Rattle.stage_job.specs.declared.job.Inner.{Inner}
use Rattle.stage_job.specs.declared.job.Leaf.{Leaf}
use Rattle.stage_job.specs.declared.job.Leaf.TheVariants as leaves
use Rattle.stage_job.proofs.Alike.{IsAlike, package_alike}
use Rattle.stage_job.proofs.Below.{apart_back, apart_below, in_new_below, not_below, not_longer, staged_in_new}
use Rattle.stage_job.proofs.FolderSteps.{begins_of, front_is, snoc_below}
use Rattle.stage_job.proofs.AboveSteps.{way_folder}

-- a source apart from a folder is apart from what lies below it
pub leaf_apart_below : (leaf : Leaf) (to below : List (List ℕ)) → IsLeafApart leaf to → IsLeafApart leaf (to ++ below)
leaf_apart_below (leaves.Copy source) to below apart = (
  ap (λ (p : List (List ℕ)). behind p (to ++ below)) (sym (append-nil source)) ∙ apart_below source to [] below apart,
  ap (behind (to ++ below)) (sym (append-nil source)) ∙ apart_below to source below [] (apart_back source to apart),
)
leaf_apart_below (leaves.Bytes bytes) to below apart = tt

-- folders may be made on any way in `.install/new`
pub new_way : (project to names : List (List ℕ)) → IsInNew project to → CanMakeWay project to names
new_way project to names in_new path e =
    let f = begins_of (behind to path) names e in
    inl (subst (λ (p : List (List ℕ)). IsStaged project p) (sym (head_behind to path f.0 f.1.0)) (staged_in_new project (to ++ f.0) (in_new_below project to f.0 in_new)))

-- no path of a source is on the way
source_off_way : (source to below names : List (List ℕ)) → AreApart source to → is_front to names (source ++ below) ≡ false
source_off_way source to below names apart = ap (λ (o : Option (List (List ℕ))). begins_names o names) (not_below to source below (apart.1, apart.0))

module _ (t m : FileTree) (to names : List (List ℕ)) (made : MakesFolders to names t m) where
  pub source_stays : (source : List (List ℕ)) → AreApart source to → IsAlike source t m
  source_stays source apart = record { each = λ below. made.each (source ++ below) ∙ rw (source_off_way source to below names apart) refl }

pub leaf_checks : (leaf : Leaf) (to at : List (List ℕ)) (t m : FileTree) (left : ℕ) {names : List (List ℕ)} → IsLeafApart leaf to → MakesFolders to names t m → leaf_checked m at leaf left ≡ leaf_checked t at leaf left
leaf_checks (leaves.Copy source) to at t m left {names} apart made = package_alike source t m left (not_root_behind source to apart.0) (source_stays t m to names made source apart)
leaf_checks (leaves.Bytes bytes) to at t m left apart made = refl

-- the place of the part is free once the folders above it are made
module _ (to : List (List ℕ)) (part : Inner) (t m : FileTree) where
  off_way : (rest : List (List ℕ)) → is_itself part.below ≡ false → is_front to (front_of part.below) ((to ++ part.below) ++ rest) ≡ false
  off_way rest proper =
      ap (λ (p : List (List ℕ)). is_front to (front_of part.below) p) (append_assoc to part.below rest)
      ∙ ap (λ (o : Option (List (List ℕ))). begins_names o (front_of part.below)) (behind_head to (part.below ++ rest)) ∙ too_long (part.below ++ rest) refl
    where
      -- what begins with the whole part begins no folder above it
      too_long : (p : List (List ℕ)) → p ≡ part.below ++ rest → begins_names (Some p) (front_of part.below) ≡ false
      too_long [] e = refl
      too_long (x ∷ xs) e =
          let last : IsSnoc part.below = snoc_below part.below proper in
          ap is_some (ap (λ (q : List (List ℕ)). behind q (front_of part.below)) (e ∙ ap (λ (q : List (List ℕ)). q ++ rest) last.is)
          ∙ ap (behind ((last.front ++ last.last ∷ []) ++ rest)) (front_is part.below last.front last.last last.is)
          ∙ not_longer (last.front ++ last.last ∷ []) rest last.front (not_behind_itself last.front last.last))

  pub part_is_free : is_itself part.below ≡ false → HasWay to (front_of part.below) t → ((rest : List (List ℕ)) → map.get t ((to ++ part.below) ++ rest) ≡ None) → MakesFolders to (front_of part.below) t m → IsFree (to ++ part.below) m
  part_is_free proper way none made = record {
    above =
        let last : IsSnoc part.below = snoc_below part.below proper in
        ap (λ (p : List (List ℕ)). has_folder m (without_last (to ++ p))) last.is
        ∙ ap (λ (p : List (List ℕ)). has_folder m (without_last p)) (sym (append_assoc to last.front (last.last ∷ [])))
        ∙ ap (has_folder m) (without_last-snoc (to ++ last.front) last.last) ∙ ap (λ (f : List (List ℕ)). is_folder (entry_at m (to ++ f))) (sym (front_is part.below last.front last.last last.is))
        ∙ way_folder to (front_of part.below) t m way.base_folder made;
    none = λ rest. made.each ((to ++ part.below) ++ rest) ∙ rw (off_way rest proper) (none rest);
  }

-- the folders and the part, over the tree before both
pub inner_put : (to : List (List ℕ)) (part : Inner) (t m u : FileTree) → IsLeafApart part.from to → MakesFolders to (front_of part.below) t m → Puts (to ++ part.below) (leaf_entry m part.from) m u → PutsInner to part t u
inner_put to part t m u apart made puts = record { each = λ path. by path (behind (to ++ part.below) path) refl }
  where
    leaf_same : (leaf : Leaf) → IsLeafApart leaf to → (r : List (List ℕ)) → leaf_entry m leaf r ≡ leaf_entry t leaf r
    leaf_same (leaves.Copy source) apart r = ap (λ (e : Option Entry). cond (is_mirrored r) e None) ((source_stays t m to (front_of part.below) made source apart).each r)
    leaf_same (leaves.Bytes bytes) apart r = refl

    by : (path : List (List ℕ)) (o : Option (List (List ℕ))) → behind (to ++ part.below) path ≡ o
        → map.get u path ≡ inner_or t part.from o (cond (is_front to (front_of part.below) path) (Some entries.Folder) (map.get t path))
    by path None e = puts.elsewhere path e ∙ made.each path
    by path (Some r) e = ap (map.get u) (head_behind (to ++ part.below) path r e) ∙ puts.put r ∙ leaf_same part.from apart r
