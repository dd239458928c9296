-- The moves of a part that is on its way have their places.
use Rattle.std.proofs.Common.{◌≡◌, ℕ, Bool, true, false, List, [], ◌∷◌, ◌++◌, codes, Option, Some, None, is_some, is_none, cond, refl, sym, ap, ◌∙◌, subst, inl, inr, append_assoc, append-nil}
use Rattle.std.specs.Prelude.{◌&&◌, ◌||◌, IfOk, Result, Ok, Err}
use Rattle.std.specs.Option.{option_map}
use Rattle.tree_dev.specs.Device.{MaySettle, Meaning}
use Rattle.std.specs.FinMap as map
use Rattle.path_name.specs.Decimals.{decimal_text}
use Rattle.path_name.specs.Paths.{without_last}
use Rattle.tree_dev.specs.Trees.{FileTree, behind, entry_at, has_folder, is_folder, kind_at, kind_of}
use Rattle.tree_dev.specs.Changes.{changed, did, has_place, is_file, is_leaf, is_root}
use Rattle.tree_dev.specs.declared.change.Change.{Change}
use Rattle.tree_dev.specs.declared.change.Change.TheVariants as changes
use Rattle.tree_dev.specs.declared.did.Did.{Did}
use Rattle.tree_dev.specs.declared.did.Did.TheVariants as dids
use Rattle.tree_dev.specs.declared.entry.Entry.{Entry}
use Rattle.tree_dev.specs.declared.entry.Entry.TheVariants as entries
use Rattle.tree_dev.specs.declared.entry.Kind.{Kind}
use Rattle.tree_dev.specs.declared.entry.Kind.TheVariants as kinds
use Rattle.tree_dev.proofs.Snoc.{without_last-snoc}
use Rattle.install_world.specs.InFlight.{HasJournal, IsThere, kept_path, old_path, staged_path, target_path}
use Rattle.tree_dev.specs.Projects.{journal_path}
use Rattle.install_world.specs.Moving.{ArePlaces, Way}
use Rattle.install_world.specs.Targets.{IsTargetPath}
use Rattle.install_world.specs.declared.moving.PartPlaces.{PartPlaces}
use Rattle.install_world.specs.declared.target.Target.{Target}
use Rattle.install_world.proofs.FlightLaws.{target_under}
use Rattle.install_world.proofs.PartMoves.{folder_stays, renamed_away, renamed_elsewhere}
use Rattle.install_world.proofs.PartPaths.{behind_itself, kept_is_work, kept_not_staged, staged_is_work, target_is_part, target_not_parent, target_not_work, work_not_parent, work_not_part}
use Rattle.install_world.proofs.WayMoves.{entry_is, staged_under}

-- ---- what a call answers where its change has a place

pub placed_is_done : (t : FileTree) (change : Change) (answer : Did) → answer ≡ did t change → has_place t change ≡ true → answer ≡ dids.Done
unfolding did
placed_is_done t change answer is place = is ∙ ap (λ fits. cond fits dids.Done dids.Misplaced) place

-- ---- renames

both_free : (there apart folder free file leaf : Bool) → there ≡ true → apart ≡ true → folder ≡ true → free ≡ true
    → ((there && apart) && cond leaf (folder && (free || file)) (folder && free)) ≡ true
both_free true true true true file true a b c d = refl
both_free true true true true file false a b c d = refl
both_free true true true false file leaf a b c d = absurd cc
both_free true true false free file leaf a b c d = absurd cc
both_free true false folder free file leaf a b c d = absurd cc
both_free false apart folder free file leaf a b c d = absurd cc

both_files : (there apart folder free file leaf : Bool) → there ≡ true → apart ≡ true → folder ≡ true → file ≡ true → leaf ≡ true
    → ((there && apart) && cond leaf (folder && (free || file)) (folder && free)) ≡ true
both_files true true true true true true a b c d e = refl
both_files true true true false true true a b c d e = refl
both_files true true true free true false a b c d e = absurd cc
both_files true true true free false leaf a b c d e = absurd cc
both_files true true false free file leaf a b c d e = absurd cc
both_files true false folder free file leaf a b c d e = absurd cc
both_files false apart folder free file leaf a b c d e = absurd cc

module _ (t : FileTree) (from to : List (List ℕ)) (from_under : is_root from ≡ false) (to_under : is_root to ≡ false) (there : IsThere t from) (apart : behind from to ≡ None)
    (folder : has_folder t (without_last to) ≡ true) where
  some_there : is_some (entry_at t from) ≡ true
  some_there = ap is_some (entry_is t from from_under) ∙ there

  -- nothing is where it goes
  pub rename_to_nothing : map.get t to ≡ None → has_place t (changes.Renamed from to) ≡ true
  unfolding has_place
  rename_to_nothing none =
      both_free (is_some (entry_at t from)) (is_none (behind from to)) (has_folder t (without_last to)) (is_none (entry_at t to)) (is_file (entry_at t to)) (is_file (entry_at t from))
      some_there (ap is_none apart) folder (ap is_none (entry_is t to to_under ∙ none))

  -- a file is put over a file
  pub rename_over_file : is_file (entry_at t from) ≡ true → is_file (entry_at t to) ≡ true → has_place t (changes.Renamed from to) ≡ true
  unfolding has_place
  rename_over_file leaf file =
      both_files (is_some (entry_at t from)) (is_none (behind from to)) (has_folder t (without_last to)) (is_none (entry_at t to)) (is_file (entry_at t to)) (is_file (entry_at t from))
      some_there (ap is_none apart) folder file leaf

-- ---- kinds

pub file_by_kind : (t : FileTree) (at : List (List ℕ)) (kind : Kind) → kind ≡ kind_at t at → kind ≡ kinds.File → is_file (entry_at t at) ≡ true
unfolding kind_at
file_by_kind t at kind is file = by (entry_at t at) (sym is ∙ file)
  where
    by : (entry : Option Entry) → kind_of entry ≡ kinds.File → is_file entry ≡ true
    by None e = absurd cc
    by (Some (entries.File bytes)) e = refl
    by (Some entries.Folder) e = absurd cc
    by (Some entries.Other) e = absurd cc

pub no_file_by_kind : (t : FileTree) (at : List (List ℕ)) (kind : Kind) → kind ≡ kind_at t at → (kind ≡ kinds.File → ⊥) → is_file (entry_at t at) ≡ false
unfolding kind_at
no_file_by_kind t at kind is other = by (entry_at t at) is
  where
    by : (entry : Option Entry) → kind ≡ kind_of entry → is_file entry ≡ false
    by None e = refl
    by (Some (entries.File bytes)) e = absurd (other e)
    by (Some entries.Folder) e = refl
    by (Some entries.Other) e = refl

-- ---- the moves of a part

pub kept_under : (project : List (List ℕ)) (number : ℕ) → is_root (kept_path project number) ≡ false
kept_under [] number = refl
kept_under (x ∷ xs) number = refl

pub above_kept : (project : List (List ℕ)) (number : ℕ) → without_last (kept_path project number) ≡ Some (old_path project)
above_kept project number =
    ap without_last (sym (append_assoc project (codes ".install" ∷ codes "old" ∷ []) (decimal_text number ∷ [])))
    ∙ without_last-snoc (old_path project) (decimal_text number)

module _ (project : List (List ℕ)) (number : ℕ) (target : Target) (places : PartPlaces) (are : ArePlaces project number target places) (t : FileTree) where
  is_target : IsTargetPath target.path
  is_target = are.is_target

  staged_apart_target : behind (staged_path project number) (target_path project target) ≡ None
  staged_apart_target =
      ap (behind (staged_path project number)) (sym (append-nil (target_path project target)))
      ∙ work_not_part project (staged_path project number) (target_path project target ++ []) (staged_is_work project number) (target_is_part project [] target is_target)

  kept_folder : is_folder (entry_at t (old_path project)) ≡ true → has_folder t (without_last (kept_path project number)) ≡ true
  kept_folder old = ap (has_folder t) (above_kept project number) ∙ old

  -- what stands at the target can be taken away
  pub take_has_place : is_folder (entry_at t (old_path project)) ≡ true → IsThere t places.target → map.get t places.kept ≡ None → has_place t (changes.Renamed places.target places.kept) ≡ true
  take_has_place old there none =
      subst (λ from. has_place t (changes.Renamed from places.kept) ≡ true) (sym are.target_is)
      (subst (λ to. has_place t (changes.Renamed (target_path project target) to) ≡ true) (sym are.kept_is)
      (rename_to_nothing t (target_path project target) (kept_path project number) (target_under project target is_target) (kept_under project number)
      (subst (IsThere t) are.target_is there) (target_not_work project (kept_path project number) target is_target (kept_is_work project number))
      (kept_folder old) (ap (map.get t) (sym are.kept_is) ∙ none)))

  -- what is staged can be put where nothing is
  pub put_has_place : has_folder t (without_last (target_path project target)) ≡ true → IsThere t places.staged → map.get t places.target ≡ None → has_place t (changes.Renamed places.staged places.target) ≡ true
  put_has_place parent there none =
      subst (λ from. has_place t (changes.Renamed from places.target) ≡ true) (sym are.staged_is)
      (subst (λ to. has_place t (changes.Renamed (staged_path project number) to) ≡ true) (sym are.target_is)
      (rename_to_nothing t (staged_path project number) (target_path project target) (staged_under project number) (target_under project target is_target)
      (subst (IsThere t) are.staged_is there) staged_apart_target
      parent (ap (map.get t) (sym are.target_is) ∙ none)))

  -- and a file over a file
  pub put_over_file : has_folder t (without_last (target_path project target)) ≡ true → IsThere t places.staged → is_file (entry_at t places.staged) ≡ true → is_file (entry_at t places.target) ≡ true
      → has_place t (changes.Renamed places.staged places.target) ≡ true
  put_over_file parent there leaf file =
      subst (λ from. has_place t (changes.Renamed from places.target) ≡ true) (sym are.staged_is)
      (subst (λ to. has_place t (changes.Renamed (staged_path project number) to) ≡ true) (sym are.target_is)
      (rename_over_file t (staged_path project number) (target_path project target) (staged_under project number) (target_under project target is_target)
      (subst (IsThere t) are.staged_is there) staged_apart_target parent
      (ap (λ at. is_file (entry_at t at)) (sym are.staged_is) ∙ leaf) (ap (λ at. is_file (entry_at t at)) (sym are.target_is) ∙ file)))

  taken_tree : FileTree
  taken_tree = changed t (changes.Renamed places.target places.kept)

  taken_target : map.get (changed t (changes.Renamed places.target places.kept)) places.target ≡ None
  taken_target =
      ap (λ at. map.get (changed t (changes.Renamed at places.kept)) at) are.target_is
      ∙ ap (λ to. map.get (changed t (changes.Renamed (target_path project target) to)) (target_path project target)) are.kept_is
      ∙ renamed_away t (target_path project target) (kept_path project number) (target_path project target) []
      (ap (behind (kept_path project number)) (sym (append-nil (target_path project target)))
      ∙ work_not_part project (kept_path project number) (target_path project target ++ []) (kept_is_work project number) (target_is_part project [] target is_target))
      (behind_itself (target_path project target))

  staged_not_in_kept : behind (kept_path project number) (staged_path project number) ≡ None
  staged_not_in_kept = ap (behind (kept_path project number)) (sym (append-nil (staged_path project number))) ∙ kept_not_staged project number number []

  taken_staged : map.get (changed t (changes.Renamed places.target places.kept)) places.staged ≡ map.get t places.staged
  taken_staged =
      ap (λ at. map.get (changed t (changes.Renamed places.target places.kept)) at) are.staged_is
      ∙ ap (λ from. map.get (changed t (changes.Renamed from places.kept)) (staged_path project number)) are.target_is
      ∙ ap (λ to. map.get (changed t (changes.Renamed (target_path project target) to)) (staged_path project number)) are.kept_is
      ∙ renamed_elsewhere t (target_path project target) (kept_path project number) (staged_path project number)
      staged_not_in_kept (target_not_work project (staged_path project number) target is_target (staged_is_work project number))
      ∙ ap (map.get t) (sym are.staged_is)

  -- the folder above the target stays where it is taken away
  taken_parent : has_folder t (without_last (target_path project target)) ≡ true
      → has_folder (changed t (changes.Renamed places.target places.kept)) (without_last (target_path project target)) ≡ true
  taken_parent has =
      subst (λ from. has_folder (changed t (changes.Renamed from places.kept)) (without_last (target_path project target)) ≡ true) (sym are.target_is)
      (subst (λ to. has_folder (changed t (changes.Renamed (target_path project target) to)) (without_last (target_path project target)) ≡ true) (sym are.kept_is)
      (by (without_last (target_path project target)) refl has))
    where
      by : (above : Option (List (List ℕ))) → without_last (target_path project target) ≡ above → has_folder t above ≡ true
          → has_folder (changed t (changes.Renamed (target_path project target) (kept_path project number))) above ≡ true
      by None e stands = stands
      by (Some parent) e stands =
          ap is_folder (folder_stays t (changed t (changes.Renamed (target_path project target) (kept_path project number))) parent
          (renamed_elsewhere t (target_path project target) (kept_path project number) parent
          (work_not_parent project parent (kept_path project number) target is_target (kept_is_work project number) e)
          (target_not_parent project parent target target (inl refl) e))) ∙ stands

-- once the target was taken away, what is staged can be put there
pub put_after_take : (project : List (List ℕ)) (number : ℕ) (target : Target) (places : PartPlaces) → ArePlaces project number target places
    → (t : FileTree) → has_folder t (without_last (target_path project target)) ≡ true → IsThere t places.staged
    → has_place (changed t (changes.Renamed places.target places.kept)) (changes.Renamed places.staged places.target) ≡ true
put_after_take project number target places are t parent there =
    put_has_place project number target places are (changed t (changes.Renamed places.target places.kept))
    (taken_parent project number target places are t parent)
    (ap is_some (taken_staged project number target places are t) ∙ there)
    (taken_target project number target places are t)

-- ---- the journal

-- the journal that stands can be taken away
pub journal_has_place : (way : Way) (t : FileTree) (at : List (List ℕ)) → at ≡ journal_path way.project → HasJournal way.project t way.journal → has_place t (changes.FileRemoved at) ≡ true
unfolding has_place
journal_has_place way t at is stands =
    ap (λ p. is_leaf (entry_at t p)) is ∙ ap is_leaf (entry_is t (journal_path way.project) (under way.project) ∙ stands.there)
  where
    under : (project : List (List ℕ)) → is_root (journal_path project) ≡ false
    under [] = refl
    under (x ∷ xs) = refl

-- ---- what is told

pub told_same : (o p : Option FileTree) (t u : FileTree) → p ≡ o → o ≡ Some t → p ≡ Some u → t ≡ u
told_same o p t u same told now = cc

pub told_changed : (o p : Option FileTree) (t u : FileTree) (change : Change) → p ≡ option_map (λ (w : FileTree). changed w change) o → o ≡ Some t → p ≡ Some u → changed t change ≡ u
told_changed o p t u change adds told now =
    let made : p ≡ Some (changed t change) = adds ∙ ap (option_map (λ (w : FileTree). changed w change)) told in
    cc

pub barrier_told : (b d : Meaning) → MaySettle b d → d.told ≡ b.told
barrier_told b d (inl stays) = stays.told
barrier_told b d (inr settles) = settles.told

pub if_ok_two : {X E : Type 0} (r : Result X E) (P Q R : X → Type 0) → ((x : X) → P x → Q x → R x) → IfOk r P → IfOk r Q → IfOk r R
if_ok_two (Ok x) P Q R f p q = f x p q
if_ok_two (Err e) P Q R f p q = tt
