-- The calls of an install in their order: the claim, staging, and what a commit begins with.
use Rattle.std.proofs.Common.{◌≡◌, ◌≢◌, ℕ, Bool, true, false, cond, List, ◌∷◌, ◌++◌, length, Some, None, refl, sym, ap, ◌∙◌, subst, inl, arith}
use Rattle.std.specs.FinMap as map
use Rattle.std.specs.Ordering.{eq_by_cmp}
use Rattle.std.proofs.lemmas.Cmp.{eq_by_cmp_equiv}
use Rattle.std.proofs.lemmas.List.{length-append}
use Rattle.path_name.specs.Orders.{path_cmp, path_cmp_total}
use Rattle.tree_dev.specs.Trees.{FileTree, IsTree}
use Rattle.tree_dev.specs.Changes.{changed}
use Rattle.tree_dev.specs.Device.{Meaning}
use Rattle.tree_dev.specs.Disk.{reading}
use Rattle.tree_dev.specs.Projects.{file_at, work_path}
use Rattle.tree_dev.specs.Steady.{EachImage, IsSteadily, Steady, Through}
use Rattle.tree_dev.specs.Told.{equal_paths}
use Rattle.tree_dev.specs.declared.change.Change.TheVariants as changes
use Rattle.tree_dev.specs.declared.entry.Entry.TheVariants.{Folder}
use Rattle.tree_dev.proofs.Carried.{free_below}
use Rattle.tree_dev.proofs.Changed.{get-changed}
use Rattle.tree_dev.proofs.Images.{reading_is_image}
use Rattle.tree_dev.proofs.SteadyRules.{steady_on}
use Rattle.tree_dev.proofs.Stretches.{through_ends}
use Rattle.install_world.specs.Moving.{Way}
use Rattle.install_world.specs.Recovery.{IsNewProject}
use Rattle.install_world.specs.InFlight.{IsInFlight}
use Rattle.install_world.proofs.RecoveryRules.{work_under}
use Rattle.stage_job.specs.Staged.{IsClaimed, IsStagedJob}
use Rattle.stage_job.specs.declared.job.Part.{Part}
use Rattle.vendor_journal.specs.Committing.{IsReady}
use Rattle.vendor_journal.specs.JobTargets.{install_way, journal_for, puts_of}
use Rattle.vendor_journal.specs.Prepared.{IsPrepared}
use Rattle.vendor_journal.specs.declared.prepared.Prepared.{Prepared}
use Rattle.vendor_journal.proofs.JobMoves.{staged_targets}

-- ---- the claim

made_here : (t : FileTree) (at : List (List ℕ)) → map.get (changed t (changes.FolderMade at)) at ≡ Some Folder
made_here t at = get-changed t (changes.FolderMade at) at ∙ ap (λ same. cond same (Some Folder) (map.get t at)) ((eq_by_cmp_equiv path_cmp_total).refl at)

made_elsewhere : (t : FileTree) (at path : List (List ℕ)) → path ≢ at → map.get (changed t (changes.FolderMade at)) path ≡ map.get t path
made_elsewhere t at path other = get-changed t (changes.FolderMade at) path ∙ by (eq_by_cmp path_cmp path at) refl
  where
    by : (same : Bool) → eq_by_cmp path_cmp path at ≡ same → cond same (Some Folder) (map.get t path) ≡ map.get t path
    by true e = absurd (other (equal_paths path at e))
    by false e = refl

longer : (at rest : List (List ℕ)) (name : List ℕ) → at ++ name ∷ rest ≢ at
longer at rest name e =
    let lens = ap length e in
    let sum = length-append at (name ∷ rest) in
    omega arith

pub claimed : (project : List (List ℕ)) (t : FileTree) → IsTree t → map.get t (work_path project) ≡ None → IsClaimed project (changed t (changes.FolderMade (work_path project)))
claimed project t tree none = record {
  folder = made_here t (work_path project);
  empty = λ name rest.
      made_elsewhere t (work_path project) (work_path project ++ name ∷ rest) (longer (work_path project) rest name)
      ∙ free_below t (work_path project) tree (work_under project) none (name ∷ rest);
}

-- ---- until the commit

module _ (project : List (List ℕ)) (start : FileTree) (begun now : Meaning) (each : EachImage begun (IsSteadily project start)) (steady : Steady project begun now) where
  steadily : Through begun now (IsSteadily project start)
  steadily = record { later = steady.later; each = steady.each start each; faults = steady.faults }

  pub not_begun : (t : FileTree) (parts : List Part) (generation : ℕ) → Through begun now (IsInFlight project start (file_at start) (install_way project start t parts generation).new)
  not_begun t parts generation = record {
    later = steady.later;
    each = λ left since.
        let is = steady.each start each left since in
        record {
          outside = record { each = is.surroundings };
          state = inl (record { absent = is.no_journal }, inl (record { each = is.project_files }));
        };
    faults = steady.faults;
  }

  pub ready : (t staged : FileTree) (parts : List Part) (generation : ℕ) (prepared : Prepared) → EachImage now (λ left. left ≡ staged) → IsStagedJob project parts t staged
      → IsPrepared project (journal_for parts generation) prepared → IsReady (install_way project start t parts generation) (puts_of t parts) prepared staged
  ready t staged parts generation prepared alone job made = record {
    made_ready = made;
    job = staged_targets project t staged parts job;
    old_files = record { each = is.project_files };
    outside = record { each = is.surroundings };
    new_files = refl;
  }
    where
      is : IsSteadily project start staged
      is = subst (IsSteadily project start) (alone (reading now.disks.now) (reading_is_image now.disks.now))
          (through_ends (IsSteadily project start) begun now steadily (reading now.disks.now) (reading_is_image now.disks.now))

-- ---- the release

pub refused : (project : List (List ℕ)) (start : FileTree) (begun claimed staged released : Meaning) → EachImage begun (IsSteadily project start) → Steady project begun claimed
    → Steady project claimed staged → Steady project staged released → Through begun released (IsSteadily project start)
refused project start begun claimed staged released each first second third =
    let all = steady_on project begun claimed released first (steady_on project claimed staged released second third) in
    record { later = all.later; each = all.each start each; faults = all.faults }

module _ (way : Way) (committed released : Meaning) (each : EachImage committed (IsNewProject way)) (steady : Steady way.project committed released) where
  new : IsNewProject way (reading committed.disks.now)
  new = each (reading committed.disks.now) (reading_is_image committed.disks.now)

  all_alike : EachImage committed (IsSteadily way.project (reading committed.disks.now))
  all_alike left image =
      let is = each left image in
      record {
        project_files = λ path part. is.files.each path part ∙ sym (new.files.each path part);
        surroundings = λ path out. is.outside.each path out ∙ sym (new.outside.each path out);
        no_journal = is.no_journal.absent;
      }

  pub stays_new : Through committed released (IsNewProject way)
  stays_new = record {
    later = steady.later;
    each = λ left since.
        let is = steady.each (reading committed.disks.now) all_alike left since in
        record {
          no_journal = record { absent = is.no_journal };
          files = record { each = λ path part. is.project_files path part ∙ new.files.each path part };
          outside = record { each = λ path out. is.surroundings path out ∙ new.outside.each path out };
        };
    faults = steady.faults;
  }
