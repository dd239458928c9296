-- What keeps the project, its surroundings, and the absence of a journal in whatever a crash may leave.
use Rattle.std.proofs.Common.{◌≡◌, ◌≢◌, ℕ, ◌≤◌, Bool, true, false, List, [], ◌∷◌, Option, Some, None, is_none, cond, refl, sym, ap, subst, ◌∙◌, inl, inr, arith, ap₂}
use Rattle.std.specs.FinMap as map
use Rattle.path_name.specs.Paths.{without_last}
use Rattle.tree_dev.specs.Trees.{FileTree, behind, entry_at, has_folder}
use Rattle.tree_dev.specs.Changes.{IsTorn, changed, entry_after, entry_after_rename, has_place}
use Rattle.tree_dev.specs.Disk.{Disks, IsImage, Leaves, reading, settled, with_change}
use Rattle.tree_dev.specs.Device.{MayAdd, MaySettle, Meaning, OnlyRead, Settles}
use Rattle.tree_dev.specs.Projects.{bytes_of, file_at, is_project_part, is_surroundings, is_within, journal_path, vendor_path, work_path}
use Rattle.tree_dev.specs.Steady.{EachImage, IsStaged, IsSteadily, Steady, Through}
use Rattle.tree_dev.specs.Told.{both}
use Rattle.tree_dev.specs.declared.change.Change.{Change}
use Rattle.tree_dev.specs.declared.change.Change.TheVariants as changes
use Rattle.tree_dev.specs.declared.entry.Entry.{Entry}
use Rattle.tree_dev.specs.declared.entry.Entry.TheVariants as entries
use Rattle.tree_dev.proofs.Changed.{get-changed}
use Rattle.tree_dev.proofs.Images.{left_with_change, one_image_settled, reading_is_image}
use Rattle.tree_dev.proofs.Moments.{later_itself, later_next, later_on, later_same}
use Rattle.tree_dev.proofs.Stretches.{one_moment, same_moment, through_from, through_then_through}
use Rattle.tree_dev.proofs.ProjectParts.{journal_not_in_vendor, journal_outside, outside, part_is_apart, surroundings_are_apart, vendor_is_no_surroundings}
use Rattle.tree_dev.proofs.SamePaths.{apart, is_same, same_path}

-- ---- stretches

-- what is steady goes through each project and surroundings
as_through : (project : List (List ℕ)) (a b : Meaning) → Steady project a b → (t : FileTree) → EachImage a (IsSteadily project t) → Through a b (IsSteadily project t)
as_through project a b run t each = record { later = run.later; each = run.each t each; faults = run.faults }

pub steady_start : (project : List (List ℕ)) (m : Meaning) → Steady project m m
steady_start project m = record { later = later_itself m.disks; each = λ t each. (through_from (IsSteadily project t) m each).each; faults = omega arith }

pub steady_on : (project : List (List ℕ)) (a b d : Meaning) → Steady project a b → Steady project b d → Steady project a d
steady_on project a b d first second = record {
  later = later_on a.disks b.disks d.disks first.later second.later;
  each = λ t each. (through_then_through (IsSteadily project t) a b d (as_through project b d second t) (as_through project a b first t each)).each;
  faults = omega (arith, first.faults, second.faults);
}

-- ---- one call

-- the disks stay
pub steady_same : (project : List (List ℕ)) (b d : Meaning) → b.faults ≤ d.faults → d.disks ≡ b.disks → Steady project b d
steady_same project b d faults same = record {
  later = later_same b.disks d.disks same;
  each = λ t each. (same_moment (IsSteadily project t) b d faults same each).each;
  faults = faults;
}

-- one moment more, whose images pass
steady_next : (project : List (List ℕ)) (b d : Meaning) (after : Disks) → b.faults ≤ d.faults → d.disks ≡ after → after.past ≡ b.disks.now ∷ b.disks.past
    → ((t : FileTree) → EachImage b (IsSteadily project t) → (left : FileTree) → IsImage after.now left → IsSteadily project t left) → Steady project b d
steady_next project b d after faults same past passes = record {
  later = later_next b.disks d.disks more;
  each = λ t each. (one_moment (IsSteadily project t) b d faults more each (λ left image. passes t each left (subst (λ (disks : Disks). IsImage disks.now left) same image))).each;
  faults = faults;
}
  where
    more : d.disks.past ≡ b.disks.now ∷ b.disks.past
    more = ap (λ (disks : Disks). disks.past) same ∙ past

pub steady_settled : (project : List (List ℕ)) (b d : Meaning) → Settles b d → Steady project b d
steady_settled project b d settles = steady_next project b d (settled b.disks) settles.faults settles.disks refl
    (λ t each left image. subst (IsSteadily project t) (sym (one_image_settled b.disks left image)) (each (reading b.disks.now) (reading_is_image b.disks.now)))

-- a change that keeps what any of its images before it had
pub steady_added : (project : List (List ℕ)) (b d : Meaning) (change : Change) → b.faults ≤ d.faults → d.disks ≡ with_change b.disks change
    → ((t : FileTree) → EachImage b (IsSteadily project t) → (before left : FileTree) → IsImage b.disks.now before → Leaves before change left → IsSteadily project t left)
    → Steady project b d
steady_added project b d change faults same passes = steady_next project b d (with_change b.disks change) faults same refl
    (λ t each left image. elim (left_with_change b.disks change left image) [
      | inl before ↦ each left before
      | inr made ↦ passes t each made.0 left made.1 made.2
    ])

-- ---- changes below `.install`

-- The change leaves every entry outside of `.install` as it was, and no journal where there was none.
pub record IsQuiet (project : List (List ℕ)) (change : Change) : Type 0 where
  pub outside : (t : FileTree) (q : List (List ℕ)) → is_within (work_path project) q ≡ false → entry_after t change q ≡ map.get t q
  pub journal : (t : FileTree) → map.get t (journal_path project) ≡ None → entry_after t change (journal_path project) ≡ None

abbrev pub IsQuietHowever : List (List ℕ) → Change → Type 0
IsQuietHowever project change = (torn : Change) → IsTorn change torn → IsQuiet project torn

-- what is torn twice is torn
pub torn_on : (change torn left : Change) → IsTorn change torn → IsTorn torn left → IsTorn change left
torn_on (changes.Written at bytes) torn left first second = subst (λ (c : Change). IsTorn c left) first.1 second
torn_on (changes.FolderMade at) torn left first second = subst (λ (c : Change). IsTorn c left) first second
torn_on (changes.Renamed from to) torn left first second = subst (λ (c : Change). IsTorn c left) first second
torn_on (changes.FileRemoved at) torn left first second = subst (λ (c : Change). IsTorn c left) first second
torn_on (changes.FolderRemoved at) torn left first second = subst (λ (c : Change). IsTorn c left) first second

quiet_keeps : (project : List (List ℕ)) (t before left : FileTree) (change : Change) → IsQuiet project change → left ≡ changed before change
    → IsSteadily project t before → IsSteadily project t left
quiet_keeps project t before left change quiet is steadily = record {
  project_files = λ q part. ap bytes_of (stays q (part_is_apart project q part)) ∙ steadily.project_files q part;
  surroundings = λ q out. stays q (surroundings_are_apart project q out) ∙ steadily.surroundings q out;
  no_journal = gets (journal_path project) ∙ quiet.journal before steadily.no_journal;
}
  where
    gets : (q : List (List ℕ)) → map.get left q ≡ entry_after before change q
    gets q = ap (λ (u : FileTree). map.get u q) is ∙ get-changed before change q

    stays : (q : List (List ℕ)) → is_within (work_path project) q ≡ false → map.get left q ≡ map.get before q
    stays q out = gets q ∙ quiet.outside before q out

pub steady_then_quiet : (project : List (List ℕ)) (a b d : Meaning) (change : Change) → IsQuietHowever project change → MayAdd b d change → Steady project a b → Steady project a d
steady_then_quiet project a b d change quiet (inl stays) run = steady_on project a b d run (steady_same project b d stays.faults stays.disks)
steady_then_quiet project a b d change quiet (inr adds) run =
    steady_on project a b d run (steady_added project b d adds.torn adds.adds.faults adds.adds.disks
    (λ t each before left image leaves. quiet_keeps project t before left leaves.torn
    (quiet leaves.torn (torn_on change adds.torn leaves.torn adds.is_torn leaves.is_torn)) leaves.after (each before image)))

-- another path than a staged one
other_than : (project at q : List (List ℕ)) → is_within (work_path project) at ≡ true → is_within (work_path project) q ≡ false → is_same q at ≡ false
other_than project at q within out = apart q at (λ same. let f = ap (is_within (work_path project)) same in absurd cc)

-- a change of the one entry at a staged path
module _ (project at : List (List ℕ)) (staged : IsStaged project at) where
  at_one : (t : FileTree) (new : Option Entry) (q : List (List ℕ)) → is_within (work_path project) q ≡ false → cond (is_same q at) new (map.get t q) ≡ map.get t q
  at_one t new q out = rw (other_than project at q staged.within out) refl

  journal_at_one : (t : FileTree) (new : Option Entry) → map.get t (journal_path project) ≡ None → cond (is_same (journal_path project) at) new (map.get t (journal_path project)) ≡ None
  journal_at_one t new none =
      let other : is_same (journal_path project) at ≡ false = apart (journal_path project) at (λ same. staged.no_journal (sym same)) in
      rw other none

  pub quiet_written : (bytes : List ℕ) → IsQuiet project (changes.Written at bytes)
  quiet_written bytes = record { outside = λ t. at_one t (Some (entries.File bytes)); journal = λ t. journal_at_one t (Some (entries.File bytes)) }

  pub quiet_made : IsQuiet project (changes.FolderMade at)
  quiet_made = record { outside = λ t. at_one t (Some entries.Folder); journal = λ t. journal_at_one t (Some entries.Folder) }

  pub quiet_file_removed : IsQuiet project (changes.FileRemoved at)
  quiet_file_removed = record { outside = λ t. at_one t None; journal = λ t. journal_at_one t None }

  pub quiet_folder_removed : IsQuiet project (changes.FolderRemoved at)
  quiet_folder_removed = record { outside = λ t. at_one t None; journal = λ t. journal_at_one t None }

  pub quiet_renamed : (to : List (List ℕ)) → IsStaged project to → to ≢ work_path project → IsQuiet project (changes.Renamed at to)
  quiet_renamed to staged_to folder = record {
    outside = λ t q out. ap₂ (λ (first second : Option (List (List ℕ))). entry_after_rename t at first second q)
        (outside (work_path project) to q staged_to.within out) (outside (work_path project) at q staged.within out);
    journal = λ t none. ap (λ (first : Option (List (List ℕ))). entry_after_rename t at first (behind at (journal_path project)) (journal_path project))
        (journal_outside project to staged_to folder) ∙ gone t none (behind at (journal_path project));
  }
    where
      gone : (t : FileTree) → map.get t (journal_path project) ≡ None → (left : Option (List (List ℕ))) → entry_after_rename t at None left (journal_path project) ≡ None
      gone t none None = none
      gone t none (Some rest) = refl

-- ---- the exits of a loop: the call's clause first, the run so far last

module _ (project : List (List ℕ)) (a b d : Meaning) where
  -- calls that are steady together, as those of a function
  pub steady_then_steady : Steady project b d → Steady project a b → Steady project a d
  steady_then_steady more run = steady_on project a b d run more

  pub steady_then_read : (failed : Bool) → OnlyRead b d failed → Steady project a b → Steady project a d
  steady_then_read failed read run = steady_on project a b d run (steady_same project b d read.faults read.disks)

  pub steady_then_write : (at : List (List ℕ)) (bytes : List ℕ) → MayAdd b d (changes.Written at bytes) → IsStaged project at → Steady project a b → Steady project a d
  steady_then_write at bytes adds staged run = steady_then_quiet project a b d (changes.Written at bytes)
      (λ torn is. subst (IsQuiet project) (sym is.1) (quiet_written project at staged is.0)) adds run

  pub steady_then_make : (at : List (List ℕ)) → MayAdd b d (changes.FolderMade at) → IsStaged project at → Steady project a b → Steady project a d
  steady_then_make at adds staged run = steady_then_quiet project a b d (changes.FolderMade at)
      (λ torn is. subst (IsQuiet project) (sym is) (quiet_made project at staged)) adds run

  pub steady_then_remove_file : (at : List (List ℕ)) → MayAdd b d (changes.FileRemoved at) → IsStaged project at → Steady project a b → Steady project a d
  steady_then_remove_file at adds staged run = steady_then_quiet project a b d (changes.FileRemoved at)
      (λ torn is. subst (IsQuiet project) (sym is) (quiet_file_removed project at staged)) adds run

  pub steady_then_remove_dir : (at : List (List ℕ)) → MayAdd b d (changes.FolderRemoved at) → IsStaged project at → Steady project a b → Steady project a d
  steady_then_remove_dir at adds staged run = steady_then_quiet project a b d (changes.FolderRemoved at)
      (λ torn is. subst (IsQuiet project) (sym is) (quiet_folder_removed project at staged)) adds run

  pub steady_then_rename : (from to : List (List ℕ)) → MayAdd b d (changes.Renamed from to) → IsStaged project from → IsStaged project to → to ≢ work_path project
      → Steady project a b → Steady project a d
  steady_then_rename from to adds staged staged_to folder run = steady_then_quiet project a b d (changes.Renamed from to)
      (λ torn is. subst (IsQuiet project) (sym is) (quiet_renamed project from staged to staged_to folder)) adds run

  pub steady_then_barrier : MaySettle b d → Steady project a b → Steady project a d
  steady_then_barrier (inl stays) run = steady_on project a b d run (steady_same project b d stays.faults stays.disks)
  steady_then_barrier (inr settles) run = steady_on project a b d run (steady_settled project b d settles)

  -- a folder that is made at or below `vendor`: nothing was there, so no file is lost
  pub steady_then_make_parent : (at : List (List ℕ)) → MayAdd b d (changes.FolderMade at) → is_within (vendor_path project) at ≡ true → Steady project a b → Steady project a d
  unfolding has_place
  steady_then_make_parent at (inl stays) vendor run = steady_on project a b d run (steady_same project b d stays.faults stays.disks)
  steady_then_make_parent at (inr adds) vendor run =
      steady_on project a b d run (steady_added project b d adds.torn adds.adds.faults adds.adds.disks
      (λ t each before left image leaves. keeps t (each (reading b.disks.now) (reading_is_image b.disks.now)) before left
      (leaves.after ∙ ap (changed before) (torn_on (changes.FolderMade at) adds.torn leaves.torn adds.is_torn leaves.is_torn)) (each before image)))
    where
      none_there : (p : List (List ℕ)) → is_none (entry_at (reading b.disks.now) p) ≡ true → map.get (reading b.disks.now) p ≡ None
      none_there [] free = absurd cc
      none_there (segment ∷ rest) free = none_is (map.get (reading b.disks.now) (segment ∷ rest)) free
        where
          none_is : (o : Option Entry) → is_none o ≡ true → o ≡ None
          none_is None e = refl
          none_is (Some x) e = absurd cc

      was_free : map.get (reading b.disks.now) at ≡ None
      was_free = none_there at (free_from adds.had_place)
        where
          free_from : has_place (reading b.disks.now) (changes.FolderMade at) ≡ true → is_none (entry_at (reading b.disks.now) at) ≡ true
          free_from e = (both (has_folder (reading b.disks.now) (without_last at)) (is_none (entry_at (reading b.disks.now) at)) e).1

      keeps : (t : FileTree) → IsSteadily project t (reading b.disks.now) → (before left : FileTree) → left ≡ changed before (changes.FolderMade at) → IsSteadily project t before → IsSteadily project t left
      keeps t now before left is steadily = record {
        project_files = λ q part. by_same q part (is_same q at) refl;
        surroundings = λ q out. gets q ∙ rw (apart q at (λ same. vendor_is_no_surroundings project at vendor (ap (is_surroundings project) (sym same) ∙ out))) (steadily.surroundings q out);
        no_journal = gets (journal_path project)
            ∙ rw (apart (journal_path project) at (λ same. let f = ap (is_within (vendor_path project)) same in let n = journal_not_in_vendor project in absurd cc)) steadily.no_journal;
      }
        where
          gets : (q : List (List ℕ)) → map.get left q ≡ cond (is_same q at) (Some entries.Folder) (map.get before q)
          gets q = ap (λ (u : FileTree). map.get u q) is ∙ get-changed before (changes.FolderMade at) q

          by_same : (q : List (List ℕ)) → is_project_part project q ≡ true → (same : Bool) → is_same q at ≡ same → file_at left q ≡ file_at t q
          by_same q part true e =
              ap bytes_of (gets q) ∙ rw e (sym (ap bytes_of (ap (map.get (reading b.disks.now)) (same_path q at e) ∙ was_free)) ∙ now.project_files q part)
          by_same q part false e = ap bytes_of (gets q) ∙ rw e (steadily.project_files q part)

-- Each exit by these, with the clauses of the calls on its way: search (steadily, clause, clause, ..).
pub ruleset steadily = (steady_start, steady_then_read, steady_then_write, steady_then_make, steady_then_remove_file, steady_then_remove_dir, steady_then_rename, steady_then_barrier, steady_then_make_parent)
