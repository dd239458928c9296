-- What is known where no refusal told of the tables' folders.
use Rattle.std.proofs.Common.{◌≡◌, ℕ, List, [], ◌∷◌, ◌++◌, codes, Option, Some, None, Result, Ok, Err, refl, sym, ap, ◌∙◌, inl, inr}
use Rattle.std.specs.Prelude.{◌⊎◌, OnOk}
use Rattle.std.specs.FinMap as map
use Rattle.tree_dev.specs.Trees.{FileTree, entry_at, kind_at, kind_of}
use Rattle.tree_dev.specs.Device.{Meaning, OfTold}
use Rattle.tree_dev.specs.Projects.{vendor_path}
use Rattle.tree_dev.specs.declared.entry.Entry.{Entry}
use Rattle.tree_dev.specs.declared.entry.Entry.TheVariants as entries
use Rattle.table_scan.specs.TableGrammar.{vendor_name}
use Rattle.run_answers.specs.Steps.{Tells}
use Rattle.run_answers.specs.declared.refusal.Refusal.{Refusal}
use Rattle.project_files.specs.Places.{composer_name, composer_place}
use Rattle.table_files.specs.TableFolders.{HasTableFolders, IsFree}
use Rattle.dump_command.specs.Standing.{folder_or_none, no_other_entry}

below_project : (t : FileTree) (project : List (List ℕ)) (f : List ℕ) (fs : List (List ℕ)) → entry_at t (project ++ f ∷ fs) ≡ map.get t (project ++ f ∷ fs)
below_project t [] f fs = refl
below_project t (p ∷ ps) f fs = refl

free_entry : (at : List (List ℕ)) (entry : Option Entry) (done : Unit {0}) → folder_or_none at (kind_of entry) ≡ Ok done → (entry ≡ None) ⊎ (entry ≡ Some entries.Folder)
free_entry at None done passes = inl refl
free_entry at (Some (entries.File bytes)) done passes = absurd cc
free_entry at (Some entries.Folder) done passes = inr refl
free_entry at (Some entries.Other) done passes = absurd cc

free_at : (t : FileTree) (project : List (List ℕ)) (f : List ℕ) (fs : List (List ℕ)) (done : Unit {0}) → no_other_entry t (project ++ f ∷ fs) ≡ Ok done → IsFree t (project ++ f ∷ fs)
unfolding no_other_entry kind_at
free_at t project f fs done passes =
    free_entry (project ++ f ∷ fs) (map.get t (project ++ f ∷ fs)) done (ap (λ (entry : Option Entry). folder_or_none (project ++ f ∷ fs) (kind_of entry)) (sym (below_project t project f fs)) ∙ passes)

-- the same of what two looks told
pub folders_after : (project : List (List ℕ)) (before now : Meaning) (result : Result (Unit {0}) Refusal) (done : Unit {0}) → OfTold before (λ t. no_other_entry t (vendor_path project) ≡ Ok done) → now.told ≡ before.told
    → OfTold now (λ t. Tells (λ passed. passed) (no_other_entry t (composer_place project)) result) → OnOk result (OfTold before (HasTableFolders project))
folders_after project before now (Ok x) done first same second = λ t told.
    record { vendor = free_at t project (codes "vendor") [] done (first t told); composer = free_at t project vendor_name (composer_name ∷ []) x (second t (same ∙ told)) }
folders_after project before now (Err refusal) done first same second = tt
