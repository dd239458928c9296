-- What becomes of the tree that is told, whatever a crash may leave of it.
use Rattle.std.proofs.Common.{◌≡◌, ℕ, Bool, true, false, cond, List, [], ◌∷◌, ◌++◌, codes, Some, None, refl, sym, ap, ◌∙◌, subst, inl, inr}
use Rattle.std.specs.Prelude.{◌⊎◌}
use Rattle.std.specs.FinMap as map
use Rattle.std.specs.Ordering.{eq_by_cmp}
use Rattle.path_name.specs.Orders.{path_cmp}
use Rattle.tree_dev.specs.Trees.{FileTree, IsTree, behind}
use Rattle.tree_dev.specs.Changes.{changed}
use Rattle.tree_dev.specs.Device.{Meaning}
use Rattle.tree_dev.specs.Disk.{IsImage, IsOnDisk, reading}
use Rattle.tree_dev.specs.Projects.{bytes_of, file_at, is_project_part, is_surroundings, journal_path, work_path}
use Rattle.tree_dev.specs.Steady.{EachImage, IsSteadily}
use Rattle.tree_dev.specs.Told.{equal_paths}
use Rattle.tree_dev.specs.declared.change.Change.TheVariants as changes
use Rattle.tree_dev.specs.declared.entry.Entry.TheVariants.{Folder}
use Rattle.tree_dev.proofs.Carried.{free_below}
use Rattle.tree_dev.proofs.Changed.{get-changed}
use Rattle.tree_dev.proofs.Images.{reading_is_image}
use Rattle.tree_dev.proofs.ProjectParts.{part_is_apart, surroundings_are_apart, vendor_is_no_surroundings}
use Rattle.install_world.specs.Removals.{OnlyRemoved, Removes}
use Rattle.install_world.proofs.PartCleared.{removed_else}
use Rattle.install_world.proofs.PartPaths.{behind_itself, work_not_part, work_not_surroundings}
use Rattle.install_world.proofs.RecoveryRules.{at_is, work_under}
use Rattle.install_world.proofs.RemovalRules.{within_itself}
use Rattle.stage_job.specs.Staged.{IsClaimed, IsKept, IsNewFolder}
use Rattle.install_commands.specs.Claiming.{with_claim}
use Rattle.install_commands.specs.Working.{IsInstalled}

-- ---- a tree with the project and the surroundings of another, and no journal

pub installed_as : (project : List (List ℕ)) (start u : FileTree) → IsSteadily project start u → IsInstalled project start (file_at start) u
installed_as project start u is = record { no_journal = record { absent = is.no_journal }; has_files = record { each = is.project_files }; outside = record { each = is.surroundings } }

-- nothing is below `.install` where nothing is at it
pub no_journal_below : (project : List (List ℕ)) (u : FileTree) → IsTree u → map.get u (work_path project) ≡ None → map.get u (journal_path project) ≡ None
no_journal_below project u tree gone =
    ap (map.get u) (sym (at_is project (work_path project) (work_path project ++ codes "journal" ∷ []) refl refl)) ∙ free_below u (work_path project) tree (work_under project) gone (codes "journal" ∷ [])

-- ---- a claim

made_else : (t : FileTree) (at path : List (List ℕ)) → behind at path ≡ None → map.get (changed t (changes.FolderMade at)) path ≡ map.get t path
made_else t at path out = get-changed t (changes.FolderMade at) path ∙ by (eq_by_cmp path_cmp path at) refl
  where
    by : (same : Bool) → eq_by_cmp path_cmp path at ≡ same → cond same (Some Folder) (map.get t path) ≡ map.get t path
    by true e = absurd (let itself : behind at path ≡ Some [] = ap (behind at) (equal_paths path at e) ∙ behind_itself at in cc)
    by false e = refl

-- it changes nothing of the project, nor around it
pub claimed_steadily : (project : List (List ℕ)) (t : FileTree) → IsClaimed project (with_claim project t) → IsSteadily project t (with_claim project t)
claimed_steadily project t claimed = record {
  project_files = λ path part. ap bytes_of (made_else t (work_path project) path (work_not_part project (work_path project) path (within_itself (work_path project)) part));
  surroundings = λ path out. made_else t (work_path project) path (work_not_surroundings project (work_path project) path (within_itself (work_path project)) out);
  no_journal = ap (map.get (with_claim project t)) (sym (at_is project (work_path project) (work_path project ++ codes "journal" ∷ []) refl refl)) ∙ claimed.empty (codes "journal") [];
}

-- ---- while `.install` is filled, and folders are made for what is to come

module _ (project : List (List ℕ)) (t u : FileTree) (kept : IsKept project t u) where
  kept_file : (path : List (List ℕ)) → is_project_part project path ≡ true → file_at u path ≡ file_at t path
  kept_file path part = by (kept.each path (part_is_apart project path part))
    where
      by : (map.get u path ≡ map.get t path) ⊎ IsNewFolder project t u path → file_at u path ≡ file_at t path
      by (inl same) = ap bytes_of same
      by (inr new) = ap bytes_of new.now ∙ sym (ap bytes_of new.before)

  kept_around : (path : List (List ℕ)) → is_surroundings project path ≡ true → map.get u path ≡ map.get t path
  kept_around path out = by (kept.each path (surroundings_are_apart project path out))
    where
      by : (map.get u path ≡ map.get t path) ⊎ IsNewFolder project t u path → map.get u path ≡ map.get t path
      by (inl same) = same
      by (inr new) = absurd (vendor_is_no_surroundings project path new.vendor out)

  pub kept_steadily : (start : FileTree) → IsSteadily project start t → map.get u (journal_path project) ≡ None → IsSteadily project start u
  kept_steadily start steadily none = record {
    project_files = λ path part. kept_file path part ∙ steadily.project_files path part;
    surroundings = λ path out. kept_around path out ∙ steadily.surroundings path out;
    no_journal = none;
  }

  -- what was staged is removed again, and the claim with it
  pub refused_steadily : (start v : FileTree) → IsSteadily project start t → OnlyRemoved (work_path project) u v → IsTree v → map.get v (work_path project) ≡ None → IsSteadily project start v
  refused_steadily start v steadily removed tree gone = record {
    project_files = λ path part.
        ap bytes_of (removed_else (work_path project) path u v removed (work_not_part project (work_path project) path (within_itself (work_path project)) part))
        ∙ kept_file path part
        ∙ steadily.project_files path part;
    surroundings = λ path out.
        removed_else (work_path project) path u v removed (work_not_surroundings project (work_path project) path (within_itself (work_path project)) out)
        ∙ kept_around path out
        ∙ steadily.surroundings path out;
    no_journal = no_journal_below project v tree gone;
  }

-- ---- while a claim is released

pub removed_steadily : (project : List (List ℕ)) (start t u : FileTree) → IsSteadily project start t → OnlyRemoved (work_path project) t u → IsSteadily project start u
removed_steadily project start t u steadily removed = record {
  project_files = λ path part.
      ap bytes_of (removed_else (work_path project) path t u removed (work_not_part project (work_path project) path (within_itself (work_path project)) part))
      ∙ steadily.project_files path part;
  surroundings = λ path out.
      removed_else (work_path project) path t u removed (work_not_surroundings project (work_path project) path (within_itself (work_path project)) out)
      ∙ steadily.surroundings path out;
  no_journal = elim (removed.each (journal_path project)) [ inl same ↦ same ∙ steadily.no_journal | inr gone ↦ gone.1 ];
}

-- what is removed of a disk is removed of the tree that is told
pub told_removed : (at : List (List ℕ)) (a b : Meaning) (t u : FileTree) → IsOnDisk a.disks.now t → IsOnDisk b.disks.now u → Removes at a b → OnlyRemoved at t u
told_removed at a b t u before now removes =
    subst (λ (w : FileTree). OnlyRemoved at w u) (sym before.reads) (subst (OnlyRemoved at (reading a.disks.now)) (sym now.reads) removes.reads)

-- ---- images

-- The tree that is told is one of those that a crash may leave.
pub told_image : (m : Meaning) (u : FileTree) → IsOnDisk m.disks.now u → IsImage m.disks.now u
told_image m u is = subst (IsImage m.disks.now) (sym is.reads) (reading_is_image m.disks.now)

-- where it is the only one
pub alone_steadily : (project : List (List ℕ)) (start u : FileTree) (m : Meaning) → EachImage m (λ left. left ≡ u) → IsSteadily project start u → EachImage m (IsSteadily project start)
alone_steadily project start u m alone steadily = λ left image. subst (IsSteadily project start) (sym (alone left image)) steadily
