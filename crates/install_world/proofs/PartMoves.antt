-- What the moves of a part make of a tree in flight.
use Rattle.std.proofs.Common.{◌≡◌, ◌≢◌, ℕ, zero, suc, ◌+◌, ◌<◌, ◌^◌, Bool, true, false, List, [], ◌∷◌, ◌++◌, length, Option, Some, None, is_some, refl, sym, ap, ◌∙◌, append-nil, subst, inl, inr, arith}
use Rattle.std.specs.Prelude.{◌⊎◌, All}
use Rattle.std.specs.List.{slice_get}
use Rattle.std.specs.FinMap as map
use Rattle.std.proofs.lemmas.Bool.{cases_eq}
use Rattle.std.proofs.lemmas.Option.{slice_get_within, get_or_from_slice_get}
use Rattle.path_name.specs.Paths.{without_last}
use Rattle.tree_dev.specs.Trees.{FileTree, behind, entry_at, is_folder, has_folder}
use Rattle.tree_dev.specs.Changes.{changed}
use Rattle.tree_dev.specs.Projects.{bytes_of, journal_path}
use Rattle.tree_dev.specs.declared.change.Change.TheVariants.{Renamed}
use Rattle.tree_dev.proofs.Behind.{behind_head}
use Rattle.tree_dev.proofs.Changed.{get-changed}
use Rattle.install_world.specs.InFlight.{Files, HasFilesOf, HasJournal, IsDone, IsMoving, IsNotBegun, IsPart, IsStagedPart, IsTakenAway, PartInFlight, kept_path, old_path, part_at, part_from, placed_or, staged_path, target_path}
use Rattle.install_world.specs.JournalText.{IsTargetOf}
use Rattle.install_world.specs.Targets.{AreTargetsApart, IsTargetPath}
use Rattle.install_world.specs.declared.journal.Journal.{Journal}
use Rattle.install_world.specs.declared.target.Target.{Target}
use Rattle.install_world.proofs.PartPaths.{behind_itself, kept_apart, kept_is_work, kept_in_work, kept_not_journal, kept_not_old, kept_not_staged, journal_is_work, old_is_work, staged_apart, staged_in_work, staged_is_work, staged_not_journal, staged_not_kept, staged_not_old, target_is_part, target_not_parent, target_not_work, targets_apart, two_parts_apart, work_not_parent, work_not_part}

-- ---- paths at no target

part_none : (number offset : ℕ) (project path : List (List ℕ)) (targets : List Target) (target : Target) → part_from offset project targets path ≡ None
    → IsPart targets number target → behind (target_path project target) path ≡ None
part_none number offset project path [] target none part = absurd cc
part_none zero offset project path (x ∷ xs) target none part =
    let same : x ≡ target = cc in
    ap (λ t. behind (target_path project t) path) (sym same) ∙ first (behind (target_path project x) path) none
  where
    first : (found : Option (List (List ℕ))) → placed_or found offset x.gone (part_from (offset + 1) project xs path) ≡ None → found ≡ None
    first None e = refl
    first (Some rest) e = absurd cc
part_none (suc number) offset project path (x ∷ xs) target none part =
    part_none number (offset + 1) project path xs target (later (behind (target_path project x) path) none) part
  where
    later : (found : Option (List (List ℕ))) → placed_or found offset x.gone (part_from (offset + 1) project xs path) ≡ None
        → part_from (offset + 1) project xs path ≡ None
    later None e = e
    later (Some rest) e = absurd cc

pub at_no_target : (number : ℕ) (project path : List (List ℕ)) (targets : List Target) (target : Target) → part_at project targets path ≡ None
    → IsPart targets number target → behind (target_path project target) path ≡ None
unfolding part_at
at_no_target number project path targets target none part = part_none number 0 project path targets target none part

-- ---- what a tree has at and below a path

-- both have the same there
pub record Agree (t now : FileTree) (at : List (List ℕ)) : Type 0 where
  pub each : (below : List (List ℕ)) → map.get now (at ++ below) ≡ map.get t (at ++ below)

pub agree_at : (t now : FileTree) (at : List (List ℕ)) → Agree t now at → map.get now at ≡ map.get t at
agree_at t now at agree = ap (map.get now) (sym (append-nil at)) ∙ agree.each [] ∙ ap (map.get t) (append-nil at)

pub files_stay : (t now : FileTree) (at from : List (List ℕ)) (files : Files) → Agree t now at → HasFilesOf t at files from → HasFilesOf now at files from
files_stay t now at from files agree has = record { each = λ below. ap bytes_of (agree.each below) ∙ has.each below }

module _ (project : List (List ℕ)) (old new : Files) (number : ℕ) (target : Target) (t now : FileTree) where
  pub staged_stays : Agree t now (staged_path project number) → IsStagedPart project new number target t → IsStagedPart project new number target now
  staged_stays agree is = record {
    there = ap is_some (agree_at t now (staged_path project number) agree) ∙ is.there;
    files = files_stay t now (staged_path project number) (target_path project target) new agree is.files;
  }

  pub part_stays : (gone : Bool) → Agree t now (target_path project target) → Agree t now (staged_path project number) → Agree t now (kept_path project number)
      → PartInFlight gone project old new number target t → PartInFlight gone project old new number target now
  part_stays true at staged kept going = record {
    unstaged = agree_at t now (staged_path project number) staged ∙ going.unstaged;
    target_either = by going.target_either;
  }
    where
      by : HasFilesOf t (target_path project target) old (target_path project target) ⊎ (map.get t (target_path project target) ≡ None)
          → HasFilesOf now (target_path project target) old (target_path project target) ⊎ (map.get now (target_path project target) ≡ None)
      by (inl as_before) = inl (files_stay t now (target_path project target) (target_path project target) old at as_before)
      by (inr absent) = inr (agree_at t now (target_path project target) at ∙ absent)
  part_stays false at staged kept (inl is) = inl (record {
    target_as_before = files_stay t now (target_path project target) (target_path project target) old at is.target_as_before;
    staged = staged_stays staged is.staged;
  })
  part_stays false at staged kept (inr (inl is)) = inr (inl (record {
    target_absent = agree_at t now (target_path project target) at ∙ is.target_absent;
    kept = files_stay t now (kept_path project number) (target_path project target) old kept is.kept;
    staged = staged_stays staged is.staged;
  }))
  part_stays false at staged kept (inr (inr is)) = inr (inr (record {
    target_as_after = files_stay t now (target_path project target) (target_path project target) new at is.target_as_after;
    unstaged = agree_at t now (staged_path project number) staged ∙ is.unstaged;
  }))

-- ---- a change at the places of one part

-- Only at and below the places of one part may the tree have changed.
pub record ChangesPart (project : List (List ℕ)) (number : ℕ) (target : Target) (t now : FileTree) : Type 0 where
  pub others : (path : List (List ℕ)) → behind (target_path project target) path ≡ None → behind (staged_path project number) path ≡ None
      → behind (kept_path project number) path ≡ None → map.get now path ≡ map.get t path

pub folder_stays : (t now : FileTree) (path : List (List ℕ)) → map.get now path ≡ map.get t path → entry_at now path ≡ entry_at t path
folder_stays t now [] e = refl
folder_stays t now (x ∷ xs) e = e

module _ (project : List (List ℕ)) (number : ℕ) (target : Target) (t now : FileTree) (change : ChangesPart project number target t now) (small : number < 2 ^ 64)
    (is : IsTargetPath target.path) where
  journal_stays : (journal : Journal) → HasJournal project t journal → HasJournal project now journal
  journal_stays journal has = record {
    text = has.text;
    there = change.others (journal_path project) (target_not_work project (journal_path project) target is (journal_is_work project))
        (staged_not_journal project number) (kept_not_journal project number) ∙ has.there;
    says = has.says;
  }

  old_stays : is_folder (entry_at t (old_path project)) ≡ true → is_folder (entry_at now (old_path project)) ≡ true
  old_stays has =
      ap is_folder (folder_stays t now (old_path project) (change.others (old_path project)
      (target_not_work project (old_path project) target is (old_is_work project)) (staged_not_old project number) (kept_not_old project number))) ∙ has

  parent_stays : (other : Target) → IsTargetPath other.path → (target ≡ other) ⊎ AreTargetsApart target other
      → has_folder t (without_last (target_path project other)) ≡ true → has_folder now (without_last (target_path project other)) ≡ true
  parent_stays other is_other either has = by (without_last (target_path project other)) refl has
    where
      by : (above : Option (List (List ℕ))) → without_last (target_path project other) ≡ above → has_folder t above ≡ true → has_folder now above ≡ true
      by None e has = has
      by (Some parent) e has =
          ap is_folder (folder_stays t now parent (change.others parent (target_not_parent project parent target other either e)
          (work_not_parent project parent (staged_path project number) other is_other (staged_is_work project number) e)
          (work_not_parent project parent (kept_path project number) other is_other (kept_is_work project number) e))) ∙ has

  other_part_stays : (old new : Files) (gone : Bool) (j : ℕ) (other : Target) → j < 2 ^ 64 → number ≢ j → IsTargetPath other.path → AreTargetsApart target other
      → PartInFlight gone project old new j other t → PartInFlight gone project old new j other now
  other_part_stays old new gone j other also differs is_other apart part =
      part_stays project old new j other t now gone
      (record {
        each = λ below. change.others (target_path project other ++ below) (targets_apart project below target other apart)
            (work_not_part project (staged_path project number) (target_path project other ++ below) (staged_is_work project number) (target_is_part project below other is_other))
            (work_not_part project (kept_path project number) (target_path project other ++ below) (kept_is_work project number) (target_is_part project below other is_other));
      })
      (record {
        each = λ below. change.others (staged_path project j ++ below)
            (target_not_work project (staged_path project j ++ below) target is (staged_in_work project j below))
            (staged_apart project number j below small also differs) (kept_not_staged project number j below);
      })
      (record {
        each = λ below. change.others (kept_path project j ++ below)
            (target_not_work project (kept_path project j ++ below) target is (kept_in_work project j below))
            (staged_not_kept project number j below) (kept_apart project number j below small also differs);
      })
      part

-- A change at the places of one part keeps a tree on the way, where it keeps that part on its way.
pub moving_on : (project : List (List ℕ)) (old new : Files) (t now : FileTree) (number : ℕ) (target : Target) (moving : IsMoving project old new t)
    → length moving.journal.targets < 2 ^ 64 → IsPart moving.journal.targets number target → ChangesPart project number target t now
    → PartInFlight target.gone project old new number target now → IsMoving project old new now
moving_on project old new t now number target moving few part change now_part = record {
  journal = moving.journal;
  stands = journal_stays project number target t now change small is moving.journal moving.stands;
  puts = moving.puts;
  result = moving.result;
  old_folder = old_stays project number target t now change small is moving.old_folder;
  parents = λ j other there. parent_stays project number target t now change small is other (is_target j other there) (same_or_apart j other there)
      (moving.parents j other there);
  elsewhere = λ path in_project none.
      ap bytes_of (change.others path (at_no_target number project path moving.journal.targets target none part)
      (work_not_part project (staged_path project number) path (staged_is_work project number) in_project)
      (work_not_part project (kept_path project number) path (kept_is_work project number) in_project)) ∙ moving.elsewhere path in_project none;
  parts = λ j other there. each j other there (cases_eq number j);
}
  where
    job_each : All (IsTargetOf moving.stands.says.version) moving.journal.targets
    job_each = moving.stands.says.is_journal.job.each

    is_target : (j : ℕ) (other : Target) → IsPart moving.journal.targets j other → IsTargetPath other.path
    is_target j other there =
        subst (λ x. IsTargetPath x.path) (get_or_from_slice_get moving.journal.targets j other other there)
        (job_each j other (slice_get_within moving.journal.targets j other there)).place

    is : IsTargetPath target.path
    is = is_target number target part

    within : (j : ℕ) (other : Target) → IsPart moving.journal.targets j other → j < 2 ^ 64
    within j other there = let inside = slice_get_within moving.journal.targets j other there in omega arith

    small : number < 2 ^ 64
    small = within number target part

    same_target : (j : ℕ) (other : Target) → IsPart moving.journal.targets j other → number ≡ j → target ≡ other
    same_target j other there e =
        let again : slice_get moving.journal.targets number ≡ Some other = ap (slice_get moving.journal.targets) e ∙ there in
        cc

    same_or_apart : (j : ℕ) (other : Target) → IsPart moving.journal.targets j other → (target ≡ other) ⊎ AreTargetsApart target other
    same_or_apart j other there = elim (cases_eq number j) [
      | inl same ↦ inl (same_target j other there same)
      | inr differs ↦ inr (two_parts_apart moving.journal.targets number j target other moving.stands.says.is_journal.job.apart part there differs)
    ]

    each : (j : ℕ) (other : Target) → IsPart moving.journal.targets j other → (number ≡ j) ⊎ (number ≡ j → ⊥)
        → PartInFlight other.gone project old new j other now
    each j other there (inl same) =
        subst (λ n. PartInFlight other.gone project old new n other now) same
        (subst (λ x. PartInFlight x.gone project old new number x now) (same_target j other there same) now_part)
    each j other there (inr differs) =
        other_part_stays project number target t now change small is old new other.gone j other (within j other there) differs (is_target j other there)
        (two_parts_apart moving.journal.targets number j target other moving.stands.says.is_journal.job.apart part there differs)
        (moving.parts j other there)

-- ---- the two moves

pub renamed_elsewhere : (t : FileTree) (from to path : List (List ℕ)) → behind to path ≡ None → behind from path ≡ None → map.get (changed t (Renamed from to)) path ≡ map.get t path
renamed_elsewhere t from to path there here = get-changed t (Renamed from to) path ∙ rw (there, here) refl

pub renamed_away : (t : FileTree) (from to path rest : List (List ℕ)) → behind to path ≡ None → behind from path ≡ Some rest → map.get (changed t (Renamed from to)) path ≡ None
renamed_away t from to path rest there here = get-changed t (Renamed from to) path ∙ rw (there, here) refl

pub renamed_here : (t : FileTree) (from to below : List (List ℕ)) → map.get (changed t (Renamed from to)) (to ++ below) ≡ map.get t (from ++ below)
renamed_here t from to below = get-changed t (Renamed from to) (to ++ below) ∙ rw (behind_head to below) refl

module _ (project : List (List ℕ)) (number : ℕ) (target : Target) (is : IsTargetPath target.path) (t : FileTree) where
  abbrev at : List (List ℕ)
  at = target_path project target

  abbrev staged : List (List ℕ)
  staged = staged_path project number

  abbrev kept : List (List ℕ)
  kept = kept_path project number

  -- what stood at the target is taken away
  abbrev taken : FileTree
  taken = changed t (Renamed at kept)

  pub taking_changes_part : ChangesPart project number target t taken
  taking_changes_part = record { others = λ path no_target no_staged no_kept. renamed_elsewhere t at kept path no_kept no_target }

  kept_not_target : (below : List (List ℕ)) → behind kept (at ++ below) ≡ None
  kept_not_target below = work_not_part project kept (at ++ below) (kept_is_work project number) (target_is_part project below target is)

  target_is_absent : map.get taken at ≡ None
  target_is_absent = renamed_away t at kept at [] (ap (behind kept) (sym (append-nil at)) ∙ kept_not_target []) (behind_itself at)

  staged_agrees : Agree t taken staged
  staged_agrees = record {
    each = λ below. renamed_elsewhere t at kept (staged ++ below) (kept_not_staged project number number below)
        (target_not_work project (staged ++ below) target is (staged_in_work project number below));
  }

  pub taken_away : (old new : Files) → IsNotBegun project old new number target t → IsTakenAway project old new number target taken
  taken_away old new before = record {
    target_absent = target_is_absent;
    kept = record { each = λ below. ap bytes_of (renamed_here t at kept below) ∙ before.target_as_before.each below };
    staged = staged_stays project old new number target t taken staged_agrees before.staged;
  }

  pub gone_away : (old new : Files) → PartInFlight true project old new number target t → PartInFlight true project old new number target taken
  gone_away old new going = record {
    unstaged = agree_at t taken staged staged_agrees ∙ going.unstaged;
    target_either = inr target_is_absent;
  }

  -- what is staged is put at the target
  abbrev put : FileTree
  put = changed t (Renamed staged at)

  pub putting_changes_part : ChangesPart project number target t put
  putting_changes_part = record { others = λ path no_target no_staged no_kept. renamed_elsewhere t staged at path no_target no_staged }

  pub put_is_done : (new : Files) → IsStagedPart project new number target t → IsDone project new number target put
  put_is_done new has = record {
    target_as_after = record { each = λ below. ap bytes_of (renamed_here t staged at below) ∙ has.files.each below };
    unstaged = renamed_away t staged at staged [] (target_not_work project staged target is (staged_is_work project number)) (behind_itself staged);
  }
