-- One entry made where nothing was.
use Rattle.std.proofs.Common.{◌≡◌, ℕ, true, false, cond, List, [], ◌∷◌, ◌++◌, Some, None, refl, sym, ap, ◌∙◌, append-nil}
use Rattle.std.specs.Option.{option_map}
use Rattle.std.specs.FinMap as map
use Rattle.path_name.specs.Paths.{without_last}
use Rattle.tree_dev.specs.Trees.{FileTree, behind, entry_at, has_folder}
use Rattle.tree_dev.specs.Changes.{changed, did, has_place, made_folder}
use Rattle.tree_dev.specs.Device.{Adds, Meaning}
use Rattle.tree_dev.specs.declared.change.Change.{Change}
use Rattle.tree_dev.specs.declared.change.Change.TheVariants as changes
use Rattle.tree_dev.specs.declared.did.Did.TheVariants as dids
use Rattle.tree_dev.specs.declared.did.Made.TheVariants as mades
use Rattle.tree_dev.specs.declared.entry.Entry.{Entry}
use Rattle.tree_dev.specs.declared.entry.Entry.TheVariants as entries
use Rattle.tree_dev.proofs.Behind.{behind_head}
use Rattle.tree_dev.proofs.Changed.{get-changed}
use Rattle.tree_dev.proofs.SamePaths.{apart, is_same, itself}
use Rattle.stage_job.specs.Copied.{folder_alone}
use Rattle.stage_job.specs.Jobs.{file_alone}
use Rattle.stage_job.specs.Staged.{IsFree, Puts}

pub same_some : {X : Type 0} (x y : X) → Some x ≡ Some y → x ≡ y
same_some x y e = cc

-- what is told after a change that came through
pub after_change : (b d : Meaning) (change : Change) (t u : FileTree) → Adds b d change → b.told ≡ Some t → d.told ≡ Some u → u ≡ changed t change
after_change b d change t u adds told now =
    same_some u (changed t change) (sym now ∙ adds.told ∙ ap (option_map (λ (v : FileTree). changed v change)) told)

behind_itself : (at : List (List ℕ)) → behind at at ≡ Some []
behind_itself at = ap (behind at) (sym (append-nil at)) ∙ behind_head at []

pub other_path : (at path : List (List ℕ)) → behind at path ≡ None → is_same path at ≡ false
other_path at path out = apart path at (λ same. let here : behind at path ≡ Some [] = ap (behind at) same ∙ behind_itself at in absurd cc)

longer_path : (at rest : List (List ℕ)) (x : List ℕ) → is_same (at ++ x ∷ rest) at ≡ false
longer_path at rest x = apart (at ++ x ∷ rest) at (λ same.
    let far : behind at (at ++ x ∷ rest) ≡ Some (x ∷ rest) = behind_head at (x ∷ rest) in
    let near : behind at (at ++ x ∷ rest) ≡ Some [] = ap (behind at) same ∙ behind_itself at in
    absurd cc)

-- ---- a free place has nothing, and takes a folder or a file

entry_none_by : (t : FileTree) (at : List (List ℕ)) → has_folder t (without_last at) ≡ true → map.get t at ≡ None → entry_at t at ≡ None
entry_none_by t [] above none = absurd cc
entry_none_by t (x ∷ rest) above none = none

pub free_entry : (at : List (List ℕ)) (t : FileTree) → IsFree at t → entry_at t at ≡ None
free_entry at t free = entry_none_by t at free.above (ap (map.get t) (sym (append-nil at)) ∙ free.none [])

pub free_makes : (at : List (List ℕ)) (t : FileTree) → IsFree at t → made_folder t at ≡ mades.New
unfolding made_folder has_place
free_makes at t free = rw (free_entry at t free, free.above) refl

pub free_writes : (at : List (List ℕ)) (bytes : List ℕ) (t : FileTree) → IsFree at t → did t (changes.Written at bytes) ≡ dids.Done
unfolding did has_place
free_writes at bytes t free = rw (free_entry at t free, free.above) refl

-- ---- what it puts there

module _ (at : List (List ℕ)) (t u : FileTree) (new : Entry) (gets : (q : List (List ℕ)) → map.get u q ≡ cond (is_same q at) (Some new) (map.get t q)) (free : IsFree at t) where
  here : map.get u (at ++ []) ≡ Some new
  here = ap (map.get u) (append-nil at) ∙ gets at ∙ rw (itself at) refl

  below : (x : List ℕ) (rest : List (List ℕ)) → map.get u (at ++ x ∷ rest) ≡ None
  below x rest = gets (at ++ x ∷ rest) ∙ rw (longer_path at rest x) (free.none (x ∷ rest))

  elsewhere : (path : List (List ℕ)) → behind at path ≡ None → map.get u path ≡ map.get t path
  elsewhere path out = gets path ∙ rw (other_path at path out) refl

pub folder_put : (at : List (List ℕ)) (t u : FileTree) → u ≡ changed t (changes.FolderMade at) → IsFree at t → Puts at folder_alone t u
folder_put at t u is free = record { put = λ rest. by rest; elsewhere = elsewhere at t u entries.Folder gets free }
  where
    gets : (q : List (List ℕ)) → map.get u q ≡ cond (is_same q at) (Some entries.Folder) (map.get t q)
    gets q = ap (λ (v : FileTree). map.get v q) is ∙ get-changed t (changes.FolderMade at) q

    by : (rest : List (List ℕ)) → map.get u (at ++ rest) ≡ folder_alone rest
    by [] = here at t u entries.Folder gets free
    by (x ∷ rest) = below at t u entries.Folder gets free x rest

pub file_put : (at : List (List ℕ)) (bytes : List ℕ) (t u : FileTree) → u ≡ changed t (changes.Written at bytes) → IsFree at t → Puts at (file_alone bytes) t u
file_put at bytes t u is free = record { put = λ rest. by rest; elsewhere = elsewhere at t u (entries.File bytes) gets free }
  where
    gets : (q : List (List ℕ)) → map.get u q ≡ cond (is_same q at) (Some (entries.File bytes)) (map.get t q)
    gets q = ap (λ (v : FileTree). map.get v q) is ∙ get-changed t (changes.Written at bytes) q

    by : (rest : List (List ℕ)) → map.get u (at ++ rest) ≡ file_alone bytes rest
    by [] = here at t u (entries.File bytes) gets free
    by (x ∷ rest) = below at t u (entries.File bytes) gets free x rest
