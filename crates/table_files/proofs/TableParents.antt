-- What stands above the files that are written with the tables.
use Rattle.std.proofs.Common.{◌≡◌, ℕ, Bool, true, false, cond, List, [], ◌∷◌, ◌++◌, Option, Some, None, is_some, refl, sym, ap, subst, ◌∙◌, inl, inr}
use Rattle.std.specs.Prelude.{◌⊎◌}
use Rattle.path_name.specs.Orders.{bytes_are_equal}
use Rattle.tree_dev.specs.Told.{one_of}
use Rattle.tree_dev.specs.Trees.{FileTree, behind}
use Rattle.tree_dev.specs.Projects.{is_within}
use Rattle.tree_dev.proofs.Behind.{head_behind, same_bytes}
use Rattle.stage_job.specs.Above.{begins_names, front_of, is_front}
use Rattle.stage_job.specs.Staging.{HasParents, is_parent}
use Rattle.stage_job.specs.declared.job.Part.{Part}
use Rattle.table_scan.specs.TableGrammar.{vendor_name}
use Rattle.table_scan.specs.declared.types.TableTexts.{TableTexts}
use Rattle.project_files.specs.Places.{composer_name}
use Rattle.table_files.specs.TableFolders.{HasTableFolders, IsFree}
use Rattle.table_files.specs.Written.{parts_of, target_of, text_part, written_files}
use Rattle.table_files.specs.declared.written.WrittenFile.{WrittenFile}

within_nothing : (f : List ℕ) (fs : List (List ℕ)) → is_within (f ∷ fs) [] ≡ true → ⊥
within_nothing f fs e = cc

first_same : (f v : List ℕ) (fs vs : List (List ℕ)) → is_within (f ∷ fs) (v ∷ vs) ≡ true → (f ≡ v) × (is_within fs vs ≡ true)
first_same f v fs vs e = by (bytes_are_equal f v) refl e
  where
    by : (b : Bool) → bytes_are_equal f v ≡ b → is_some (cond b (behind fs vs) None) ≡ true → (f ≡ v) × (is_within fs vs ≡ true)
    by true s more = (same_bytes f v s, more)
    by false s more = absurd cc

only_first : (f v : List ℕ) (fs : List (List ℕ)) → is_within (f ∷ fs) (v ∷ []) ≡ true → f ∷ fs ≡ v ∷ []
only_first f v [] e = ap (λ (x : List ℕ). x ∷ []) (first_same f v [] [] e).0
only_first f v (g ∷ gs) e = absurd (within_nothing g gs (first_same f v (g ∷ gs) [] e).1)

first_or_both : (f v a : List ℕ) (fs : List (List ℕ)) → is_within (f ∷ fs) (v ∷ a ∷ []) ≡ true → (f ∷ fs ≡ v ∷ []) ⊎ (f ∷ fs ≡ v ∷ a ∷ [])
first_or_both f v a [] e = inl (ap (λ (x : List ℕ). x ∷ []) (first_same f v [] (a ∷ []) e).0)
first_or_both f v a (g ∷ gs) e =
    let parts = first_same f v (g ∷ gs) (a ∷ []) e in
    inr (ap (λ (x : List ℕ). x ∷ g ∷ gs) parts.0 ∙ ap (λ (xs : List (List ℕ)). v ∷ xs) (only_first g a gs parts.1))

-- a file in `vendor/composer`, or in `vendor`
abbrev pub IsInTables : List (List ℕ) → Type 0
IsInTables target = (front_of target ≡ vendor_name ∷ composer_name ∷ []) ⊎ (front_of target ≡ vendor_name ∷ [])

abbrev pub AreInTables : List WrittenFile → Type 0
AreInTables [] = Unit {0}
AreInTables (file ∷ written) = IsInTables (target_of file) × AreInTables written

pub are_in_tables : (texts : TableTexts) (installed : Option (List ℕ)) → AreInTables (written_files texts installed)
unfolding written_files
are_in_tables texts installed = (inl refl, (inl refl, (inl refl, (inl refl, (inl refl, (inl refl, (inr refl, tt)))))))

module _ (project : List (List ℕ)) (t : FileTree) (folders : HasTableFolders project t) where
  vendor_free : IsFree t (project ++ vendor_name ∷ [])
  unfolding vendor_name
  vendor_free = folders.vendor

  front_free : (path : List (List ℕ)) (o : Option (List (List ℕ))) → behind project path ≡ o → begins_names o (vendor_name ∷ composer_name ∷ []) ≡ true → IsFree t path
  front_free path None e begins = absurd cc
  front_free path (Some []) e begins = absurd cc
  front_free path (Some (f ∷ fs)) e begins = subst (λ (p : List (List ℕ)). IsFree t p) (sym (head_behind project path (f ∷ fs) e)) (by (first_or_both f vendor_name composer_name fs begins))
    where
      by : (f ∷ fs ≡ vendor_name ∷ []) ⊎ (f ∷ fs ≡ vendor_name ∷ composer_name ∷ []) → IsFree t (project ++ f ∷ fs)
      by (inl is) = subst (λ (p : List (List ℕ)). IsFree t (project ++ p)) (sym is) vendor_free
      by (inr is) = subst (λ (p : List (List ℕ)). IsFree t (project ++ p)) (sym is) folders.composer

  vendor_front : (path : List (List ℕ)) (o : Option (List (List ℕ))) → behind project path ≡ o → begins_names o (vendor_name ∷ []) ≡ true → IsFree t path
  vendor_front path None e begins = absurd cc
  vendor_front path (Some []) e begins = absurd cc
  vendor_front path (Some (f ∷ fs)) e begins =
      subst (λ (p : List (List ℕ)). IsFree t p) (sym (head_behind project path (f ∷ fs) e ∙ ap (λ (p : List (List ℕ)). project ++ p) (only_first f vendor_name fs begins))) vendor_free

  target_free : (target path : List (List ℕ)) → IsInTables target → is_front project (front_of target) path ≡ true → IsFree t path
  target_free target path (inl is) begins = front_free path (behind project path) refl (ap (λ (front : List (List ℕ)). begins_names (behind project path) front) (sym is) ∙ begins)
  target_free target path (inr is) begins = vendor_front path (behind project path) refl (ap (λ (front : List (List ℕ)). begins_names (behind project path) front) (sym is) ∙ begins)

  part_free : (target path : List (List ℕ)) (text : Option (List ℕ)) (rest : List Part) → IsInTables target → (is_parent project rest path ≡ true → IsFree t path)
      → is_parent project (text_part target text ++ rest) path ≡ true → IsFree t path
  part_free target path None rest is more parent = more parent
  part_free target path (Some text) rest is more parent = by (one_of (is_front project (front_of target) path) (is_parent project rest path) parent)
    where
      by : (is_front project (front_of target) path ≡ true) ⊎ (is_parent project rest path ≡ true) → IsFree t path
      by (inl here) = target_free target path is here
      by (inr later) = more later

  parents_free : (written : List WrittenFile) → AreInTables written → (path : List (List ℕ)) → is_parent project (parts_of written) path ≡ true → IsFree t path
  parents_free [] are path parent = absurd cc
  parents_free (file ∷ written) are path parent = part_free (target_of file) path file.text (parts_of written) are.0 (parents_free written are.1 path) parent

  pub has_parents : (written : List WrittenFile) → AreInTables written → HasParents project (parts_of written) t
  has_parents written are = record { each = parents_free written are }
