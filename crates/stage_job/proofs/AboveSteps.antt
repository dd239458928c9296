-- Folders made one after another on the way of some names.
use Rattle.std.proofs.Common.{◌≡◌, ◌⊎◌, ℕ, ◌+◌, ◌<◌, Bool, true, false, ◌||◌, cond, List, [], ◌∷◌, ◌++◌, length, take, drop, get_or, Option, Some, None, is_some, refl, sym, ap, ◌∙◌, inl, inr, append_assoc, append-nil}
use Rattle.std.specs.Prelude.{IsTrue}
use Rattle.std.proofs.lemmas.List.{take-append-drop, take_more}
use Rattle.std.specs.FinMap as map
use Rattle.path_name.specs.Paths.{without_last}
use Rattle.tree_dev.specs.Trees.{FileTree, behind, entry_at, has_folder, is_folder}
use Rattle.tree_dev.specs.Changes.{has_place, made_folder}
use Rattle.tree_dev.specs.Device.{MayAdd, Meaning, Rose, Stays}
use Rattle.tree_dev.specs.Disk.{IsOnDisk}
use Rattle.tree_dev.specs.Projects.{is_within}
use Rattle.tree_dev.specs.declared.change.Change.TheVariants as changes
use Rattle.tree_dev.specs.declared.did.Made.TheVariants as mades
use Rattle.tree_dev.specs.declared.entry.Entry.{Entry}
use Rattle.tree_dev.specs.declared.entry.Entry.TheVariants as entries
use Rattle.tree_dev.proofs.Behind.{behind_head}
use Rattle.tree_dev.proofs.SamePaths.{is_same, same_path}
use Rattle.tree_dev.proofs.Snoc.{not_behind_itself, without_last-snoc}
use Rattle.stage_job.specs.Above.{CanMake, CanMakeWay, HasWay, MakesFolders, begins_names, front_of, front_or_none, is_front}
use Rattle.stage_job.specs.Staged.{Staging}
use Rattle.stage_job.proofs.Below.{folder_there}
use Rattle.stage_job.proofs.Fronts.{front_more, no_front, within_is}
use Rattle.stage_job.proofs.StagingRules.{staging_make, staging_make_parent}
use Rattle.stage_job.proofs.Made.{same_some}

-- ---- one folder

pub staging_either : {project : List (List ℕ)} {b d : Meaning} {failed : Bool} → (IsTrue failed → Rose b.faults d.faults) → {at : List (List ℕ)} → CanMake project at
    → ((t : FileTree) → b.told ≡ Some t → IsOnDisk b.disks.now t) → MayAdd b d (changes.FolderMade at) → Staging project b d failed
staging_either cause (inl staged) on_disk adds = staging_make cause staged adds
staging_either cause (inr vendor) on_disk adds = staging_make_parent cause vendor on_disk adds

-- what is told after a call that changed nothing
pub same_told : (b d : Meaning) (t u : FileTree) → Stays b d → b.told ≡ Some t → d.told ≡ Some u → u ≡ t
same_told b d t u stays told now = same_some u t (sym now ∙ stays.told ∙ told)

entry_below : (t : FileTree) (at : List (List ℕ)) → has_folder t (without_last at) ≡ true → entry_at t at ≡ map.get t at
entry_below t [] above = absurd cc
entry_below t (x ∷ rest) above = refl

-- what the call answers where nothing or a folder is there
answer_by : (t : FileTree) (at : List (List ℕ)) (e : Option Entry) → entry_at t at ≡ e → has_folder t (without_last at) ≡ true → (e ≡ None) ⊎ (e ≡ Some entries.Folder)
    → ((e ≡ None) × (made_folder t at ≡ mades.New)) ⊎ ((e ≡ Some entries.Folder) × (made_folder t at ≡ mades.Exists))
unfolding made_folder has_place
answer_by t at e is above (inl none) = inl (none, rw (is, none, above) refl)
answer_by t at e is above (inr folder) = inr (folder, rw (is, folder) refl)

module _ (t : FileTree) (at : List (List ℕ)) (above : has_folder t (without_last at) ≡ true) (free : (map.get t at ≡ None) ⊎ (map.get t at ≡ Some entries.Folder)) where
  answers : ((map.get t at ≡ None) × (made_folder t at ≡ mades.New)) ⊎ ((map.get t at ≡ Some entries.Folder) × (made_folder t at ≡ mades.Exists))
  answers = answer_by t at (map.get t at) (entry_below t at above) above free

  pub never_misplaced : mades.Misplaced ≡ made_folder t at → ⊥
  never_misplaced is = elim answers [ inl new ↦ (let e : mades.Misplaced ≡ mades.New = is ∙ new.1 in absurd cc) | inr old ↦ (let e : mades.Misplaced ≡ mades.Exists = is ∙ old.1 in absurd cc) ]

  pub exists_folder : mades.Exists ≡ made_folder t at → map.get t at ≡ Some entries.Folder
  exists_folder is = elim answers [ inl new ↦ (let e : mades.Exists ≡ mades.New = is ∙ new.1 in absurd cc) | inr old ↦ old.0 ]

pub kept_folder : (t : FileTree) (at path : List (List ℕ)) → map.get t at ≡ Some entries.Folder → map.get t path ≡ cond (is_same path at) (Some entries.Folder) (map.get t path)
kept_folder t at path folder = by (is_same path at) refl
  where
    by : (same : Bool) → is_same path at ≡ same → map.get t path ≡ cond same (Some entries.Folder) (map.get t path)
    by true e = ap (map.get t) (same_path path at e) ∙ folder
    by false e = refl

-- ---- the names of the way

pub way_names : (below after : List (List ℕ)) (left : Bool) → without_last below ≡ cond left (Some after) None → (left ≡ false → after ≡ below) → after ≡ front_of below
way_names below after true is kept = sym (ap front_or_none is)
way_names [] after false is kept = kept refl
way_names (x ∷ rest) after false is kept = absurd cc

-- where the way leads to there is a folder once its folders are made
module _ (base names : List (List ℕ)) (t m : FileTree) (above : (x : List ℕ) → has_folder t (without_last (base ++ x ∷ [])) ≡ true) (made : MakesFolders base names t m) where
  same_entry : (p : List (List ℕ)) → map.get m p ≡ map.get t p → entry_at m p ≡ entry_at t p
  same_entry [] e = refl
  same_entry (y ∷ ys) e = e

  base_kept : map.get m base ≡ map.get t base
  base_kept = made.each base ∙ ap (λ (o : Option (List (List ℕ))). cond (begins_names o names) (Some entries.Folder) (map.get t base)) (ap (behind base) (sym (append-nil base)) ∙ behind_head base [])

  folder_at : (front : List (List ℕ)) → front ≡ names → is_folder (entry_at m (base ++ front)) ≡ true
  folder_at [] e =
      ap (λ (p : List (List ℕ)). is_folder (entry_at m p)) (append-nil base) ∙ ap is_folder (same_entry base base_kept)
      ∙ ap (has_folder t) (sym (without_last-snoc base [])) ∙ above []
  folder_at (y ∷ ys) e = folder_there m (base ++ y ∷ ys)
      (made.each (base ++ y ∷ ys) ∙ ap (λ (b : Bool). cond b (Some entries.Folder) (map.get t (base ++ y ∷ ys)))
      (ap (λ (o : Option (List (List ℕ))). begins_names o names) (behind_head base (y ∷ ys)) ∙ within_is (y ∷ ys) names [] (sym e ∙ sym (append-nil (y ∷ ys)))))

  pub way_folder : is_folder (entry_at m (base ++ names)) ≡ true
  way_folder = folder_at names refl

module _ (base names : List (List ℕ)) (i : ℕ) (x : List ℕ) (t m : FileTree) (lt : i < length names) (is : x ≡ get_or names i x) (way : HasWay base names t) (so_far : MakesFolders base (take i names) t m) where
  next : take (i + 1) names ≡ take i names ++ x ∷ []
  next = take_more names i x lt ∙ ap (λ (n : List ℕ). take i names ++ n ∷ []) (sym is)

  abbrev place : List (List ℕ)
  place = (base ++ take i names) ++ x ∷ []

  place_is : place ≡ base ++ (take i names ++ x ∷ [])
  place_is = append_assoc base (take i names) (x ∷ [])

  pub place_above : has_folder m (without_last ((base ++ take i names) ++ x ∷ [])) ≡ true
  place_above = ap (has_folder m) (without_last-snoc (base ++ take i names) x) ∙ way_folder base (take i names) t m way.base_folder so_far

  begins_more : (front : List (List ℕ)) → begins_names (Some (front ++ x ∷ [])) names ≡ is_within (front ++ x ∷ []) names
  begins_more [] = refl
  begins_more (y ∷ ys) = refl

  not_yet : (front : List (List ℕ)) → begins_names (Some (front ++ x ∷ [])) front ≡ false
  not_yet [] = refl
  not_yet (y ∷ ys) = ap is_some (not_behind_itself (y ∷ ys) x)

  on_way : is_front base names place ≡ true
  on_way =
      ap (λ (p : List (List ℕ)). is_front base names p) place_is
      ∙ ap (λ (o : Option (List (List ℕ))). begins_names o names) (behind_head base (take i names ++ x ∷ []))
      ∙ begins_more (take i names)
      ∙ within_is (take i names ++ x ∷ []) names (drop (i + 1) names) (sym (take-append-drop (i + 1) names) ∙ ap (λ (p : List (List ℕ)). p ++ drop (i + 1) names) next)

  place_kept : map.get m place ≡ map.get t place
  place_kept =
      so_far.each place
      ∙ ap (λ (b : Bool). cond b (Some entries.Folder) (map.get t place))
      (ap (λ (p : List (List ℕ)). is_front base (take i names) p) place_is
      ∙ ap (λ (o : Option (List (List ℕ))). begins_names o (take i names)) (behind_head base (take i names ++ x ∷ []))
      ∙ not_yet (take i names))

  pub place_free : (map.get m ((base ++ take i names) ++ x ∷ []) ≡ None) ⊎ (map.get m ((base ++ take i names) ++ x ∷ []) ≡ Some entries.Folder)
  place_free = elim (way.each place on_way) [ inl none ↦ inl (place_kept ∙ none) | inr folder ↦ inr (place_kept ∙ folder) ]

  pub one_folder_more : (u : FileTree) → ((path : List (List ℕ)) → map.get u path ≡ cond (is_same path ((base ++ take i names) ++ x ∷ [])) (Some entries.Folder) (map.get m path)) → MakesFolders base (take (i + 1) names) t u
  one_folder_more u gets = record { each = λ path. by path }
    where
      joined : (a b : Bool) (e : Option Entry) → cond b (Some entries.Folder) (cond a (Some entries.Folder) e) ≡ cond (a || b) (Some entries.Folder) e
      joined true true e = refl
      joined true false e = refl
      joined false b e = refl

      by : (path : List (List ℕ)) → map.get u path ≡ cond (is_front base (take (i + 1) names) path) (Some entries.Folder) (map.get t path)
      by path =
          gets path
          ∙ ap (λ (p : List (List ℕ)). cond (is_same path p) (Some entries.Folder) (map.get m path)) (append_assoc base (take i names) (x ∷ []))
          ∙ ap (cond (is_same path (base ++ (take i names ++ x ∷ []))) (Some entries.Folder)) (so_far.each path)
          ∙ joined (is_front base (take i names) path) (is_same path (base ++ (take i names ++ x ∷ []))) (map.get t path)
          ∙ ap (λ (b : Bool). cond b (Some entries.Folder) (map.get t path)) (sym (front_more base (take i names) x path))
          ∙ ap (λ (ns : List (List ℕ)). cond (is_front base ns path) (Some entries.Folder) (map.get t path)) (sym next)

-- a folder may be made at the next place of a way on which folders may be made, whatever stands there
module _ (base names : List (List ℕ)) (i : ℕ) (x : List ℕ) (lt : i < length names) (is : x ≡ get_or names i x) where
  begins_all : (front : List (List ℕ)) → begins_names (Some (front ++ x ∷ [])) names ≡ is_within (front ++ x ∷ []) names
  begins_all [] = refl
  begins_all (y ∷ ys) = refl

  pub can_make_next : (project : List (List ℕ)) → CanMakeWay project base names → CanMake project ((base ++ take i names) ++ x ∷ [])
  can_make_next project can = can ((base ++ take i names) ++ x ∷ [])
      (ap (λ (p : List (List ℕ)). is_front base names p) (append_assoc base (take i names) (x ∷ []))
      ∙ ap (λ (o : Option (List (List ℕ))). begins_names o names) (behind_head base (take i names ++ x ∷ []))
      ∙ begins_all (take i names)
      ∙ within_is (take i names ++ x ∷ []) names (drop (i + 1) names)
      (sym (take-append-drop (i + 1) names) ∙ ap (λ (p : List (List ℕ)). p ++ drop (i + 1) names) (take_more names i x lt ∙ ap (λ (n : List ℕ). take i names ++ n ∷ []) (sym is))))

pub nothing_made : (base : List (List ℕ)) (t : FileTree) → MakesFolders base [] t t
nothing_made base t = record { each = λ path. sym (ap (λ (b : Bool). cond b (Some entries.Folder) (map.get t path)) (no_front base path)) }
