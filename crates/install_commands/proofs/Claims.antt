-- What a claim finds, and what it leaves.
use Rattle.std.proofs.Common.{◌≡◌, ℕ, Bool, true, false, cond, List, [], ◌∷◌, ◌++◌, Option, Some, None, is_some, codes, Result, Ok, Err, IsTrue, refl, sym, ap, ◌∙◌, subst, inl, inr}
use Rattle.std.specs.Prelude.{◌⊎◌}
use Rattle.std.specs.FinMap as map
use Rattle.std.proofs.lemmas.Bool.{false≢true}
use Rattle.path_name.specs.Paths.{without_last}
use Rattle.tree_dev.specs.Trees.{FileTree, IsTree, has_folder, kind_at}
use Rattle.tree_dev.specs.Device.{Adds, Meaning, OfTold}
use Rattle.tree_dev.specs.Projects.{work_path}
use Rattle.tree_dev.specs.declared.change.Change.TheVariants as changes
use Rattle.tree_dev.specs.declared.entry.Entry.{Entry}
use Rattle.tree_dev.specs.Changes.{is_root}
use Rattle.tree_dev.specs.declared.entry.Kind.{Kind}
use Rattle.tree_dev.specs.Kinds.{names_entry}
use Rattle.tree_dev.proofs.Places.{entry_there}
use Rattle.tree_dev.proofs.Snoc.{without_last-snoc}
use Rattle.install_world.proofs.WayMoves.{entry_is}
use Rattle.project_files.specs.Places.{manifest_place}
use Rattle.stage_job.specs.Staged.{IsClaimed, KeepsTelling}
use Rattle.stage_job.proofs.Made.{after_change}
use Rattle.stage_job.proofs.StagingRules.{told_before}
use Rattle.vendor_journal.proofs.InstallSteps.{claimed}
use Rattle.run_answers.specs.Faults.{is_free}
use Rattle.run_answers.specs.declared.refusal.Refusal.{Refusal}
use Rattle.run_answers.specs.declared.refusal.Refusal.TheVariants as refusals
use Rattle.install_commands.specs.Claiming.{claim_in}

above_is : (project : List (List ℕ)) (name : List ℕ) (t : FileTree) → has_folder t (Some project) ≡ has_folder t (without_last (project ++ name ∷ []))
above_is project name t = ap (has_folder t) (sym (without_last-snoc project name))

-- nothing is at a path above which no folder is
pub none_without_folder : (t : FileTree) (path : List (List ℕ)) → IsTree t → has_folder t (without_last path) ≡ false → map.get t path ≡ None
none_without_folder t path tree no_folder = by (map.get t path) refl
  where
    by : (entry : Option Entry) → map.get t path ≡ entry → map.get t path ≡ None
    by None e = e
    by (Some entry) e = absurd (false≢true (sym no_folder ∙ tree.below_folders path (ap is_some e)))

-- nothing is in a project that is no folder
pub none_in_project : (t : FileTree) (project : List (List ℕ)) (name : List ℕ) → IsTree t → has_folder t (Some project) ≡ false → map.get t (project ++ name ∷ []) ≡ None
none_in_project t project name tree no_folder = none_without_folder t (project ++ name ∷ []) tree (sym (above_is project name t) ∙ no_folder)

-- ---- what a claim answers

abbrev claim_by : Bool → Bool → Result (Unit {0}) Refusal
claim_by there folder = cond there (Err refusals.Unfinished) (cond folder (Ok tt) (Err refusals.NoManifest))

claim_is : (t : FileTree) (project : List (List ℕ)) (there folder : Bool) → is_some (map.get t (work_path project)) ≡ there → has_folder t (Some project) ≡ folder
    → claim_in t project ≡ claim_by there folder
unfolding claim_in
claim_is t project there folder e f = ap (λ b. claim_by b (has_folder t (Some project))) e ∙ ap (claim_by there) f

pub claim_passes : (t : FileTree) (project : List (List ℕ)) → map.get t (work_path project) ≡ None → has_folder t (without_last (work_path project)) ≡ true
    → claim_in t project ≡ Ok tt
claim_passes t project none above = claim_is t project false true (ap is_some none) (above_is project (codes ".install") t ∙ above)

pub claim_unfinished : (t : FileTree) (project : List (List ℕ)) → is_some (map.get t (work_path project)) ≡ true → claim_in t project ≡ Err refusals.Unfinished
claim_unfinished t project there = claim_is t project true (has_folder t (Some project)) there refl

pub claim_without_folder : (t : FileTree) (project : List (List ℕ)) → IsTree t → has_folder t (without_last (work_path project)) ≡ false
    → claim_in t project ≡ Err refusals.NoManifest
claim_without_folder t project tree no_folder =
    claim_is t project false false (ap is_some (none_without_folder t (work_path project) tree no_folder)) (above_is project (codes ".install") t ∙ no_folder)

pub no_project : (t : FileTree) (project : List (List ℕ)) → has_folder t (without_last (work_path project)) ≡ false → has_folder t (Some project) ≡ false
no_project t project no_folder = above_is project (codes ".install") t ∙ no_folder

-- what is told of a project that is no folder
pub lost_told : (t : FileTree) (project : List (List ℕ)) (refusal : Refusal) → IsTree t → has_folder t (without_last (work_path project)) ≡ false
    → IsTrue (is_free refusal) ⊎ (refusal ≡ refusals.NoManifest) → IsTrue (is_free refusal) ⊎ (claim_in t project ≡ Err refusal)
lost_told t project refusal tree no_folder (inl free) = inl free
lost_told t project refusal tree no_folder (inr same) = inr (claim_without_folder t project tree no_folder ∙ ap Err (sym same))

-- there is no composer.json in it
pub lost_manifest : (t : FileTree) (project : List (List ℕ)) (has : Bool) → IsTree t → has_folder t (Some project) ≡ false
    → has ≡ is_some (map.get t (manifest_place project)) → has ≡ false
lost_manifest t project has tree no_folder is = is ∙ ap is_some (none_in_project t project (codes "composer.json") tree no_folder)

-- ---- what a claim leaves

-- the tree that is told after a claim can be staged in
pub ready_for_staging : (project : List (List ℕ)) (before now : Meaning) → KeepsTelling before now
    → OfTold before (λ t. (map.get t (work_path project) ≡ None) × Adds before now (changes.FolderMade (work_path project)))
    → ((t : FileTree) → before.told ≡ Some t → IsTree t) → OfTold now (IsClaimed project)
ready_for_staging project before now tells made trees = λ u told_u.
    let b = told_before before.told tells u told_u in
    let is = after_change before now (changes.FolderMade (work_path project)) b.0 u (made b.0 b.1).1 b.1 told_u in
    subst (IsClaimed project) (sym is) (claimed project b.0 (trees b.0 b.1) (made b.0 b.1).0)

-- ---- whether there is a composer.json

manifest_under : (project : List (List ℕ)) → is_root (manifest_place project) ≡ false
manifest_under [] = refl
manifest_under (segment ∷ rest) = refl

-- a kind that was seen at its place says whether something is there
pub manifest_seen : (t : FileTree) (project at : List (List ℕ)) (kind : Kind) → at ≡ manifest_place project → kind ≡ kind_at t at
    → names_entry kind ≡ is_some (map.get t (manifest_place project))
manifest_seen t project at kind same is =
    entry_there t (manifest_place project) kind (is ∙ ap (kind_at t) same) ∙ ap is_some (entry_is t (manifest_place project) (manifest_under project))
