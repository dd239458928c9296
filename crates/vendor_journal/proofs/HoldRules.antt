-- The claim of a project, and its release.
use Rattle.std.proofs.Common.{◌≡◌, Bool, true, false, List, [], ◌∷◌, ℕ, codes, Option, Some, None, is_some, is_none, cond, refl, sym, ap, ◌∙◌, inl, inr}
use Rattle.std.specs.Prelude.{◌&&◌, not}
use Rattle.std.specs.FinMap as map
use Rattle.path_name.specs.Paths.{without_last}
use Rattle.tree_dev.specs.Trees.{FileTree, behind, has_folder}
use Rattle.tree_dev.specs.Changes.{has_place, is_root, made_folder}
use Rattle.tree_dev.specs.Device.{Meaning}
use Rattle.tree_dev.specs.Projects.{bytes_of, journal_path, work_path}
use Rattle.tree_dev.specs.Steady.{IsStaged, IsSteadily, Steady}
use Rattle.tree_dev.specs.declared.change.Change.TheVariants as changes
use Rattle.tree_dev.specs.declared.entry.Entry.{Entry}
use Rattle.tree_dev.specs.declared.did.Made.{Made}
use Rattle.tree_dev.specs.declared.did.Made.TheVariants as mades
use Rattle.tree_dev.proofs.ProjectParts.{behind_same_head}
use Rattle.install_world.specs.InFlight.{IsThere}
use Rattle.install_world.specs.Removals.{OnlyRemoved, Removes}
use Rattle.install_world.proofs.PartCleared.{removed_else}
use Rattle.install_world.proofs.PartPaths.{behind_itself, work_not_part, work_not_surroundings}
use Rattle.install_world.proofs.RemovalRules.{within_itself}

pub work_staged : (project : List (List ℕ)) → IsStaged project (work_path project)
work_staged project = record { within = within_itself (work_path project); no_journal = other }
  where
    other : work_path project ≡ journal_path project → ⊥
    other same =
        let itself : behind (journal_path project) (work_path project) ≡ Some [] = ap (behind (journal_path project)) same ∙ behind_itself (journal_path project) in
        let none : behind (journal_path project) (work_path project) ≡ None = behind_same_head project (codes ".install" ∷ codes "journal" ∷ []) (codes ".install" ∷ []) in
        absurd cc

never_exists : (place : Bool) → cond place mades.New mades.Misplaced ≡ mades.Exists → ⊥
never_exists true e = absurd cc
never_exists false e = absurd cc

-- a folder that is not made since something is there
pub exists_there : (t : FileTree) (at : List (List ℕ)) (made : Made) → made ≡ made_folder t at → made ≡ mades.Exists → is_root at ≡ false → IsThere t at
unfolding made_folder
exists_there t [] made is exists under = absurd cc
exists_there t (x ∷ xs) made is exists under = by (is_some (map.get t (x ∷ xs))) refl (sym is ∙ exists)
  where
    by : (some : Bool) → is_some (map.get t (x ∷ xs)) ≡ some
        → cond (is_some (map.get t (x ∷ xs))) mades.Exists (cond (has_place t (changes.FolderMade (x ∷ xs))) mades.New mades.Misplaced) ≡ mades.Exists
        → is_some (map.get t (x ∷ xs)) ≡ true
    by true e found = e
    by false e found =
        absurd (never_exists (has_place t (changes.FolderMade (x ∷ xs)))
        (sym (ap (λ some. cond some mades.Exists (cond (has_place t (changes.FolderMade (x ∷ xs))) mades.New mades.Misplaced)) e) ∙ found))

-- a folder that is made where nothing was
pub new_was_free : (t : FileTree) (at : List (List ℕ)) (made : Made) → made ≡ made_folder t at → made ≡ mades.New → map.get t at ≡ None
unfolding made_folder
new_was_free t [] made is new = absurd cc
new_was_free t (x ∷ xs) made is new = by (map.get t (x ∷ xs)) refl (sym is ∙ new)
  where
    by : (entry : Option Entry) → map.get t (x ∷ xs) ≡ entry
        → cond (is_some (map.get t (x ∷ xs))) mades.Exists (cond (has_place t (changes.FolderMade (x ∷ xs))) mades.New mades.Misplaced) ≡ mades.New
        → map.get t (x ∷ xs) ≡ None
    by None e found = e
    by (Some entry) e found =
        let exists = ap (λ o. cond (is_some o) mades.Exists (cond (has_place t (changes.FolderMade (x ∷ xs))) mades.New mades.Misplaced)) e in
        absurd cc

-- a folder that is made stands below one
pub new_is_below : (t : FileTree) (at : List (List ℕ)) (made : Made) → made ≡ made_folder t at → made ≡ mades.New → is_root at ≡ false
    → has_folder t (without_last at) ≡ true
unfolding made_folder has_place
new_is_below t [] made is new under = absurd cc
new_is_below t (x ∷ xs) made is new under =
    above (is_some (map.get t (x ∷ xs))) (has_folder t (without_last (x ∷ xs))) (is_none (map.get t (x ∷ xs))) (sym is ∙ new)
  where
    above : (some folder none : Bool) → cond some mades.Exists (cond (folder && none) mades.New mades.Misplaced) ≡ mades.New → folder ≡ true
    above true folder none e = absurd cc
    above false true none e = refl
    above false false none e = absurd cc

none_not : (o : Option Entry) → is_none o ≡ not (is_some o)
none_not None = refl
none_not (Some entry) = refl

-- a folder that is not made since none is above it
pub no_folder_above : (t : FileTree) (at : List (List ℕ)) (made : Made) → made ≡ made_folder t at → made ≡ mades.Misplaced → is_root at ≡ false
    → (map.get t at ≡ None) × (has_folder t (without_last at) ≡ false)
unfolding made_folder has_place
no_folder_above t [] made is misplaced under = absurd cc
no_folder_above t (x ∷ xs) made is misplaced under = (
  free (map.get t (x ∷ xs)) refl (sym is ∙ misplaced),
  above (is_some (map.get t (x ∷ xs))) (has_folder t (without_last (x ∷ xs)))
      (is_none (map.get t (x ∷ xs))) (none_not (map.get t (x ∷ xs))) (sym is ∙ misplaced),
)
  where
    above : (some folder none : Bool) → none ≡ not some → cond some mades.Exists (cond (folder && none) mades.New mades.Misplaced) ≡ mades.Misplaced → folder ≡ false
    above true folder none n e = absurd cc
    above false true true n e = absurd cc
    above false true false n e = absurd cc
    above false false none n e = refl

    free : (entry : Option Entry) → map.get t (x ∷ xs) ≡ entry
        → cond (is_some (map.get t (x ∷ xs))) mades.Exists
        (cond (has_folder t (without_last (x ∷ xs)) && is_none (map.get t (x ∷ xs))) mades.New mades.Misplaced) ≡ mades.Misplaced
        → map.get t (x ∷ xs) ≡ None
    free None e found = e
    free (Some entry) e found =
        let exists : cond (is_some (map.get t (x ∷ xs))) mades.Exists
        (cond (has_folder t (without_last (x ∷ xs)) && is_none (map.get t (x ∷ xs))) mades.New mades.Misplaced) ≡ mades.Exists
        = ap (λ o. cond (is_some o) mades.Exists (cond (has_folder t (without_last (x ∷ xs)) && is_none (map.get t (x ∷ xs))) mades.New mades.Misplaced)) e in
        absurd cc

-- what is only removed in `.install` leaves all else
pub steady_removed : (project : List (List ℕ)) (b d : Meaning) → Removes (work_path project) b d → Steady project b d
steady_removed project b d removes = record {
  later = removes.later;
  each = λ t each left since. let found = removes.each left since in left_steadily t found.0 left (each found.0 found.1) found.2;
  faults = removes.faults;
}
  where
    left_steadily : (t was left : FileTree) → IsSteadily project t was → OnlyRemoved (work_path project) was left → IsSteadily project t left
    left_steadily t was left steadily removed = record {
      project_files = λ path part.
          ap bytes_of (removed_else (work_path project) path was left removed (work_not_part project (work_path project) path (within_itself (work_path project)) part))
          ∙ steadily.project_files path part;
      surroundings = λ path out.
          removed_else (work_path project) path was left removed (work_not_surroundings project (work_path project) path (within_itself (work_path project)) out)
          ∙ steadily.surroundings path out;
      no_journal = elim (removed.each (journal_path project)) [ inl same ↦ same ∙ steadily.no_journal | inr gone ↦ gone.1 ];
    }
