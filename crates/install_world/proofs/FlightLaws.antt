-- What is known of trees in flight while a journal stands.
use Rattle.std.proofs.Common.{◌≡◌, ℕ, ◌<◌, ◌^◌, Bool, true, false, cond, List, [], ◌∷◌, ◌++◌, length, Option, Some, None, is_some, refl, sym, ap, ◌∙◌, append-nil, subst, inl, inr, arith}
use Rattle.std.specs.Prelude.{◌⊎◌}
use Rattle.std.specs.FinMap as map
use Rattle.std.proofs.lemmas.Option.{slice_get_within, get_or_from_slice_get}
use Rattle.tree_dev.specs.Trees.{FileTree, IsTree, is_folder}
use Rattle.tree_dev.specs.Changes.{changed, is_root}
use Rattle.tree_dev.specs.Projects.{bytes_of, file_at, is_project_part, journal_path}
use Rattle.tree_dev.specs.declared.change.Change.TheVariants.{Renamed}
use Rattle.tree_dev.proofs.Carried.{nothing_below}
use Rattle.install_world.specs.InFlight.{AreAllDone, Files, HasFiles, HasFilesOf, HasJournal, HasSurroundings, IsFinishedProject, IsInFlight, IsMoving, IsPart, IsPartDone, HasStagedParts, IsStagedPart, IsThere, NoJournal, PartInFlight, Placed, finished_by, finished_file, job_result, kept_path, part_at, staged_path, target_path}
use Rattle.path_name.specs.Paths.{BeginsWith}
use Rattle.install_world.specs.JournalText.{Says}
use Rattle.install_world.specs.Targets.{IsTargetPath, lock_target, vendor_target}
use Rattle.install_world.specs.declared.journal.Journal.{Journal}
use Rattle.install_world.specs.declared.target.Target.{Target}
use Rattle.install_world.proofs.Finished.{FoundPart, found_part, moving_is_finished, staged_is_moving, unstaged_is_done}
use Rattle.install_world.proofs.OneJournal.{few_in, one_journal}
use Rattle.install_world.proofs.PartMoves.{ChangesPart, gone_away, moving_on, put_is_done, putting_changes_part, taken_away, taking_changes_part}
use Rattle.install_world.proofs.PartPaths.{journal_is_work, kept_is_work, kept_not_journal, staged_is_work, staged_not_journal, target_not_surroundings, target_not_work, work_not_surroundings}

-- A tree in flight on which a journal stands is moved by it.
pub record IsMovingBy (project : List (List ℕ)) (old new : Files) (journal : Journal) (t : FileTree) : Type 0 where
  pub moving : IsMoving project old new t
  pub by : moving.journal ≡ journal

same_text : (project : List (List ℕ)) (t : FileTree) (first second : Journal) (a : HasJournal project t first) (b : HasJournal project t second) → a.text ≡ b.text
same_text project t first second a b = let one = a.there in let two = b.there in cc

pub on_way : (project : List (List ℕ)) (surroundings : FileTree) (old new : Files) (t : FileTree) (journal : Journal) (stands : HasJournal project t journal)
    → length stands.text < 2 ^ 64 → IsInFlight project surroundings old new t → IsMovingBy project old new journal t
on_way project surroundings old new t journal stands small flight = by flight.state
  where
    by : (NoJournal project t × (HasFiles project t old ⊎ HasFiles project t new)) ⊎ IsMoving project old new t → IsMovingBy project old new journal t
    by (inl none) = let one = none.0.absent in let two = stands.there in absurd cc
    by (inr moving) = record {
      moving = moving;
      by = one_journal moving.stands.text moving.journal journal (let same = ap length (same_text project t moving.journal journal moving.stands stands) in omega arith)
          moving.stands.says (subst (λ text. Says text journal) (sym (same_text project t moving.journal journal moving.stands stands)) stands.says);
    }

pub few : (project : List (List ℕ)) (t : FileTree) (journal : Journal) (stands : HasJournal project t journal) → length stands.text < 2 ^ 64 → length journal.targets < 2 ^ 64
few project t journal stands small = few_in stands.says.version stands.text journal stands.says.printed small

pub part_target : (project : List (List ℕ)) (t : FileTree) (journal : Journal) → HasJournal project t journal → (number : ℕ) (target : Target) → IsPart journal.targets number target
    → IsTargetPath target.path
part_target project t journal stands number target part =
    subst (λ x. IsTargetPath x.path) (get_or_from_slice_get journal.targets number target target part)
    (stands.says.is_journal.job.each number target (slice_get_within journal.targets number target part)).place

-- a change at the places of a part leaves the journal
pub journal_entry_stays : (project : List (List ℕ)) (t now : FileTree) (number : ℕ) (target : Target) → IsTargetPath target.path → ChangesPart project number target t now
    → map.get now (journal_path project) ≡ map.get t (journal_path project)
journal_entry_stays project t now number target is change =
    change.others (journal_path project) (target_not_work project (journal_path project) target is (journal_is_work project))
    (staged_not_journal project number) (kept_not_journal project number)

surroundings_stay : (project : List (List ℕ)) (surroundings t now : FileTree) (number : ℕ) (target : Target) → IsTargetPath target.path → ChangesPart project number target t now
    → HasSurroundings project surroundings t → HasSurroundings project surroundings now
surroundings_stay project surroundings t now number target is change has = record {
  each = λ path out. change.others path (target_not_surroundings project path target is out)
      (work_not_surroundings project (staged_path project number) path (staged_is_work project number) out)
      (work_not_surroundings project (kept_path project number) path (kept_is_work project number) out) ∙ has.each path out;
}

module _ (project : List (List ℕ)) (surroundings : FileTree) (old new : Files) (t : FileTree) (journal : Journal) (stands : HasJournal project t journal)
    (small : length stands.text < 2 ^ 64) (flight : IsInFlight project surroundings old new t) where
  way : IsMovingBy project old new journal t
  way = on_way project surroundings old new t journal stands small flight

  -- the part of the journal on its way
  pub part_on_way : (number : ℕ) (target : Target) → IsPart journal.targets number target → PartInFlight target.gone project old new number target t
  part_on_way number target part = way.moving.parts number target (subst (λ (j : Journal). IsPart j.targets number target) (sym way.by) part)

  pub stays_in_flight : (number : ℕ) (target : Target) (now : FileTree) → IsPart journal.targets number target → ChangesPart project number target t now
      → PartInFlight target.gone project old new number target now → IsInFlight project surroundings old new now
  stays_in_flight number target now part change now_part = record {
    outside = surroundings_stay project surroundings t now number target (part_target project t journal stands number target part) change flight.outside;
    state = inr (moving_on project old new t now number target way.moving
        (subst (λ (j : Journal). length j.targets < 2 ^ 64) (sym way.by) (few project t journal stands small))
        (subst (λ (j : Journal). IsPart j.targets number target) (sym way.by) part) change now_part);
  }

  is_target : (number : ℕ) (target : Target) → IsPart journal.targets number target → IsTargetPath target.path
  is_target number target part = part_target project t journal stands number target part

  taken_part : (gone : Bool) (number : ℕ) (target : Target) → IsTargetPath target.path → (gone ≡ true) ⊎ (IsThere t (staged_path project number) × IsThere t (target_path project target))
      → PartInFlight gone project old new number target t
      → PartInFlight gone project old new number target (changed t (Renamed (target_path project target) (kept_path project number)))
  taken_part true number target is why part = gone_away project number target is t old new part
  taken_part false number target is (inl wrong) part = absurd cc
  taken_part false number target is (inr there) (inl part) = inr (inl (taken_away project number target is t old new part))
  taken_part false number target is (inr there) (inr (inl part)) = let none = ap is_some part.target_absent in let some = there.1 in absurd cc
  taken_part false number target is (inr there) (inr (inr part)) = let none = ap is_some part.unstaged in let some = there.0 in absurd cc

  -- What stands at a target is taken away, where the part is to be gone or is staged.
  pub taking_keeps : (number : ℕ) (target : Target) → IsPart journal.targets number target
      → (target.gone ≡ true) ⊎ (IsThere t (staged_path project number) × IsThere t (target_path project target))
      → IsInFlight project surroundings old new (changed t (Renamed (target_path project target) (kept_path project number)))
  taking_keeps number target part why =
      stays_in_flight number target (changed t (Renamed (target_path project target) (kept_path project number))) part
      (taking_changes_part project number target (is_target number target part) t)
      (taken_part target.gone number target (is_target number target part) why (part_on_way number target part))

  staged_source : (number : ℕ) (target : Target) → IsThere t (staged_path project number) → PartInFlight false project old new number target t → IsStagedPart project new number target t
  staged_source number target there (inl part) = part.staged
  staged_source number target there (inr (inl part)) = part.staged
  staged_source number target there (inr (inr part)) = let none = ap is_some part.unstaged in absurd cc

  put_part : (gone : Bool) (number : ℕ) (target : Target) → IsTargetPath target.path → gone ≡ false → IsThere t (staged_path project number) → PartInFlight gone project old new number target t
      → PartInFlight gone project old new number target (changed t (Renamed (staged_path project number) (target_path project target)))
  put_part true number target is stays there part = absurd cc
  put_part false number target is stays there part = inr (inr (put_is_done project number target is t new (staged_source number target there part)))

  -- What is staged is put at its target.
  pub putting_keeps : (number : ℕ) (target : Target) → IsPart journal.targets number target → target.gone ≡ false → IsThere t (staged_path project number)
      → IsInFlight project surroundings old new (changed t (Renamed (staged_path project number) (target_path project target)))
  putting_keeps number target part stays there =
      stays_in_flight number target (changed t (Renamed (staged_path project number) (target_path project target))) part
      (putting_changes_part project number target (is_target number target part) t)
      (put_part target.gone number target (is_target number target part) stays there (part_on_way number target part))

  -- What recovery makes of it is the new project, whatever was done.
  pub finishes_new : (path : List (List ℕ)) → is_project_part project path ≡ true → finished_by project journal.targets t path ≡ new path
  finishes_new path in_project =
      ap (λ (j : Journal). finished_by project j.targets t path) (sym way.by) ∙ moving_is_finished project old new t way.moving path in_project

  lost_part : (number : ℕ) (target : Target) (gone : Bool) → target.gone ≡ gone → gone ≡ false → PartInFlight gone project old new number target t → map.get t (staged_path project number) ≡ None
      → HasFilesOf t (target_path project target) new (target_path project target)
  lost_part number target true is stays part none = absurd cc
  lost_part number target false is stays part none = unstaged_is_done project old new number target t part none

  -- A part whose source is no longer staged has its target as in the new project.
  pub lost_is_done : (number : ℕ) (target : Target) → IsPart journal.targets number target → target.gone ≡ false → map.get t (staged_path project number) ≡ None
      → HasFilesOf t (target_path project target) new (target_path project target)
  lost_is_done number target part stays none = lost_part number target target.gone refl stays (part_on_way number target part) none

-- ---- where all parts are done

bytes_none : (t : FileTree) (path : List (List ℕ)) → map.get t path ≡ None → file_at t path ≡ None
bytes_none t path e = ap bytes_of e

some_segment : (path : List (List ℕ)) → (is_root path ≡ true) ⊎ (is_root path ≡ false)
some_segment [] = inl refl
some_segment (x ∷ xs) = inr refl

root_of : (path : List (List ℕ)) → is_root path ≡ true → path ≡ []
root_of [] e = refl
root_of (x ∷ xs) e = absurd cc

-- in a tree no file is at or below a path at which nothing is
pub no_file_below : (t : FileTree) (at below : List (List ℕ)) → IsTree t → is_root at ≡ false → map.get t at ≡ None → file_at t (at ++ below) ≡ None
no_file_below t at below tree under none = elim (some_segment below) [
  | inl root ↦ ap (λ rest. file_at t (at ++ rest)) (root_of below root) ∙ ap (file_at t) (append-nil at) ∙ bytes_none t at none
  | inr some ↦ bytes_none t (at ++ below) (nothing_below t tree at under (ap is_folder none) below some)
]

pub target_under : (project : List (List ℕ)) (target : Target) → IsTargetPath target.path → is_root (target_path project target) ≡ false
target_under [] target is = by target.path is.place
  where
    by : (path : List (List ℕ)) → (path ≡ lock_target) ⊎ BeginsWith path vendor_target → is_root path ≡ false
    by [] (inl e) = absurd cc
    by [] (inr e) = let f = e.1 in absurd cc
    by (x ∷ xs) either = refl
target_under (x ∷ xs) target is = refl

-- Where all parts are done, the project is the new one.
-- what finishing makes of a part that is done is what stands
pub part_done_is_own : (project : List (List ℕ)) (t : FileTree) (journal : Journal) → HasJournal project t journal → IsTree t → (path : List (List ℕ)) (part : Placed)
    → part_at project journal.targets path ≡ Some part → (found : FoundPart project journal.targets path part 0) → IsPartDone found.target.gone project found.index found.target t
    → finished_by project journal.targets t path ≡ file_at t path
unfolding finished_by
part_done_is_own project t journal stands tree path part e found done = ap (finished_file project t path) e ∙ by part.gone refl
  where
    by : (gone : Bool) → part.gone ≡ gone → finished_file project t path (Some part) ≡ file_at t path
    by true is =
        let gone : found.target.gone ≡ true = sym found.gone ∙ is in
        let absent = subst (λ g. IsPartDone g project found.index found.target t) gone done in
        ap (λ g. cond g None (cond (is_some (map.get t (staged_path project part.number))) (file_at t (staged_path project part.number ++ part.below)) (file_at t path))) is
        ∙ sym (ap (file_at t) found.path_is ∙ no_file_below t (target_path project found.target) part.below tree
        (target_under project found.target (part_target project t journal stands found.index found.target found.is_part)) absent)
    by false is =
        let number : part.number ≡ found.index = found.number ∙ omega arith in
        let gone : found.target.gone ≡ false = sym found.gone ∙ is in
        let absent = subst (λ g. IsPartDone g project found.index found.target t) gone done in
        ap (λ g. cond g None (cond (is_some (map.get t (staged_path project part.number))) (file_at t (staged_path project part.number ++ part.below)) (file_at t path))) is
        ∙ ap (λ o. cond (is_some o) (file_at t (staged_path project part.number ++ part.below)) (file_at t path)) (ap (λ n. map.get t (staged_path project n)) number ∙ absent)

-- where all parts are done, what finishing makes of a tree is its own project
pub all_done_is_own : (project : List (List ℕ)) (t : FileTree) (journal : Journal) → HasJournal project t journal → IsTree t → AreAllDone project journal.targets t
    → (path : List (List ℕ)) → finished_by project journal.targets t path ≡ file_at t path
unfolding finished_by
all_done_is_own project t journal stands tree done path = same (part_at project journal.targets path) refl
  where
    same : (found : Option Placed) → part_at project journal.targets path ≡ found → finished_file project t path (part_at project journal.targets path) ≡ file_at t path
    same None e = ap (finished_file project t path) e
    same (Some part) e =
        let found = found_part project path journal.targets part e in
        part_done_is_own project t journal stands tree path part e found (done.each found.index found.target found.is_part)

pub all_done_is_new : (project : List (List ℕ)) (surroundings : FileTree) (old new : Files) (t : FileTree) (journal : Journal) (stands : HasJournal project t journal)
    → length stands.text < 2 ^ 64 → IsInFlight project surroundings old new t → IsTree t → AreAllDone project journal.targets t → HasFiles project t new
all_done_is_new project surroundings old new t journal stands small flight tree done = record {
  each = λ path in_project. sym (all_done_is_own project t journal stands tree done path)
      ∙ finishes_new project surroundings old new t journal stands small flight path in_project;
}

-- ---- how it begins

pub staged_in_flight : (project : List (List ℕ)) (surroundings : FileTree) (old : Files) (puts : ℕ → Files) (t : FileTree) (journal : Journal) → HasJournal project t journal
    → HasStagedParts project journal.targets puts t → HasFiles project t old → HasSurroundings project surroundings t
    → IsInFlight project surroundings old (job_result project journal.targets puts old) t
staged_in_flight project surroundings old puts t journal stands job has outside = record {
  outside = outside;
  state = inr (staged_is_moving project old puts t journal stands job has);
}

-- ---- the finished project

pub finished_is_new : (project : List (List ℕ)) (surroundings : FileTree) (old new files : Files) (t : FileTree) (journal : Journal) (stands : HasJournal project t journal)
    → length stands.text < 2 ^ 64 → IsInFlight project surroundings old new t → IsFinishedProject project t files
    → (path : List (List ℕ)) → is_project_part project path ≡ true → files path ≡ new path
finished_is_new project surroundings old new files t journal stands small flight finished path in_project =
    finished.finished journal stands path in_project ∙ finishes_new project surroundings old new t journal stands small flight path in_project

pub finished_is_either : (project : List (List ℕ)) (surroundings : FileTree) (old new files : Files) (t : FileTree) → NoJournal project t → IsInFlight project surroundings old new t
    → IsFinishedProject project t files
    → ((path : List (List ℕ)) → is_project_part project path ≡ true → files path ≡ old path) ⊎ ((path : List (List ℕ)) → is_project_part project path ≡ true → files path ≡ new path)
finished_is_either project surroundings old new files t none flight finished = by flight.state
  where
    by : (NoJournal project t × (HasFiles project t old ⊎ HasFiles project t new)) ⊎ IsMoving project old new t
        → ((path : List (List ℕ)) → is_project_part project path ≡ true → files path ≡ old path) ⊎ ((path : List (List ℕ)) → is_project_part project path ≡ true → files path ≡ new path)
    by (inl (nothing, inl has)) = inl (λ path in_project. finished.kept none path in_project ∙ has.each path in_project)
    by (inl (nothing, inr has)) = inr (λ path in_project. finished.kept none path in_project ∙ has.each path in_project)
    by (inr moving) = let one = none.absent in let two = moving.stands.there in absurd cc
