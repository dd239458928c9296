-- What follows of needs that say the same of each path.
use Rattle.std.proofs.Common.{◌≡◌, ℕ, ◌+◌, Bool, ◌||◌, ◌&&◌, cond, List, [], ◌∷◌, ◌++◌, Option, Some, None, refl, ap, ◌∙◌}
use Rattle.std.specs.Ordering.{is_eq}
use Rattle.path_name.specs.Orders.{path_cmp}
use Rattle.path_name.specs.Paths.{without_last}
use Rattle.tree_dev.specs.Trees.{FileTree, entry_at}
use Rattle.tree_dev.specs.Changes.{is_leaf}
use Rattle.tree_dev.specs.Projects.{vendor_path}
use Rattle.stage_job.specs.declared.job.Part.{Part}
use Rattle.package_moves.specs.Counted.{names_count}
use Rattle.package_moves.specs.Found.{IsFoundIn}
use Rattle.package_moves.specs.Joined.{if_blocked, left_after, own_parts}
use Rattle.package_moves.specs.Needed.{AreSameNeeds, Needs, above_count, above_counts, if_other, is_blocked, is_blocked_of, names_of, others_in, unneeded, unneeded_at, unneeded_of, vendor_count}
use Rattle.package_moves.specs.Wanted.{vendor_name}
use Rattle.package_moves.specs.declared.unneeded.Found.{Found}

module _ (one other : Needs) (same : AreSameNeeds one other) (project : List (List ℕ)) (t : FileTree) where
  others_same : (folder names : List (List ℕ)) → others_in one folder names ≡ others_in other folder names
  others_same folder [] = refl
  others_same folder (name ∷ names) =
      ap (λ (b : Bool). if_other b (folder ++ name ∷ []) ++ others_in one folder names) (same.targets (folder ++ name ∷ []))
      ∙ ap (λ (more : List (List (List ℕ))). if_other (other.is_target (folder ++ name ∷ [])) (folder ++ name ∷ []) ++ more) (others_same folder names)

  at_same : (path : List (List ℕ)) → unneeded_at one project t path ≡ unneeded_at other project t path
  at_same path =
      ap (λ (b : Bool). cond b (others_in one path (names_of t (project ++ path))) (if_other (one.is_target path) path)) (same.above path)
      ∙ ap (λ (more : List (List (List ℕ))). cond (other.is_above path) more (if_other (one.is_target path) path)) (others_same path (names_of t (project ++ path)))
      ∙ ap (λ (b : Bool). cond (other.is_above path) (others_in other path (names_of t (project ++ path))) (if_other b path)) (same.targets path)

  of_same : (folder names : List (List ℕ)) → unneeded_of one project t folder names ≡ unneeded_of other project t folder names
  of_same folder [] = refl
  of_same folder (name ∷ names) =
      ap (λ (own : List (List (List ℕ))). own ++ unneeded_of one project t folder names) (at_same (folder ++ name ∷ []))
      ∙ ap (λ (more : List (List (List ℕ))). unneeded_at other project t (folder ++ name ∷ []) ++ more) (of_same folder names)

  pub unneeded_same : unneeded one project t ≡ unneeded other project t
  unfolding unneeded
  unneeded_same = of_same vendor_name (names_of t (vendor_path project))

  blocked_same : (path : List (List ℕ)) → is_blocked one project t path ≡ is_blocked other project t path
  blocked_same path = ap (λ (b : Bool). b && is_leaf (entry_at t (project ++ path))) (same.above path)

  blocked_of_same : (folder names path : List (List ℕ)) → is_blocked_of one project t folder names path ≡ is_blocked_of other project t folder names path
  blocked_of_same folder [] path = refl
  blocked_of_same folder (name ∷ names) path =
      ap (λ (b : Bool). (is_eq (path_cmp (folder ++ name ∷ []) path) && b) || is_blocked_of one project t folder names path) (blocked_same (folder ++ name ∷ []))
      ∙ ap (λ (b : Bool). (is_eq (path_cmp (folder ++ name ∷ []) path) && is_blocked other project t (folder ++ name ∷ [])) || b) (blocked_of_same folder names path)

  counts_same : (folder names : List (List ℕ)) → above_counts one project t folder names ≡ above_counts other project t folder names
  counts_same folder [] = refl
  counts_same folder (name ∷ names) =
      ap (λ (b : Bool). cond b (names_count t (project ++ (folder ++ name ∷ []))) 0 + above_counts one project t folder names) (same.above (folder ++ name ∷ []))
      ∙ ap (λ (n : ℕ). above_count other project t (folder ++ name ∷ []) + n) (counts_same folder names)

  pub count_same : vendor_count one project t ≡ vendor_count other project t
  unfolding vendor_count
  count_same = ap (λ (n : ℕ). names_count t (vendor_path project) + n) (counts_same vendor_name (names_of t (vendor_path project)))

  pub found_same : (found : Found) → IsFoundIn one project t found → IsFoundIn other project t found
  found_same found is = record {
    vendor = is.vendor;
    gone = is.gone ∙ unneeded_same;
    in_way = λ path. is.in_way path ∙ blocked_of_same vendor_name (names_of t (vendor_path project)) path;
  }

-- ---- the same in the way

module _ (one other : List (List ℕ) → Bool) (same : (path : List (List ℕ)) → one path ≡ other path) (wanted : List Part) where
  if_same : (o : Option (List (List ℕ))) → if_blocked one o ≡ if_blocked other o
  if_same None = refl
  if_same (Some folder) = ap (λ (b : Bool). cond b (Some folder) None) (same folder)

  pub left_same : (earlier parts : List Part) (flags : List Bool) → left_after one wanted earlier parts flags ≡ left_after other wanted earlier parts flags
  left_same earlier [] flags = refl
  left_same earlier (part ∷ parts) [] = refl
  left_same earlier (part ∷ parts) (flag ∷ flags) =
      ap (λ (o : Option (List (List ℕ))). own_parts wanted earlier part flag o ++ left_after one wanted (earlier ++ part ∷ []) parts flags) (if_same (without_last part.target))
      ∙ ap (λ (more : List Part). own_parts wanted earlier part flag (if_blocked other (without_last part.target)) ++ more) (left_same (earlier ++ part ∷ []) parts flags)
