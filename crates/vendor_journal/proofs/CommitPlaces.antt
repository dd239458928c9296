-- The calls of a commit have their places in a tree in which its job is staged whole.
use Rattle.std.proofs.Common.{◌≡◌, ℕ, ◌+◌, Bool, true, false, List, [], ◌∷◌, ◌++◌, codes, Option, Some, None, is_some, is_none, refl, sym, ap, ◌∙◌, subst, arith, append_assoc, append-nil}
use Rattle.std.specs.Prelude.{◌&&◌, ◌||◌}
use Rattle.std.specs.FinMap as map
use Rattle.path_name.specs.Decimals.{decimal_text}
use Rattle.path_name.specs.Paths.{without_last}
use Rattle.tree_dev.specs.Trees.{FileTree, IsTree, behind, entry_at, has_folder, is_folder}
use Rattle.tree_dev.specs.Changes.{changed, has_place, is_file, is_root}
use Rattle.tree_dev.specs.Projects.{journal_path, work_path}
use Rattle.tree_dev.specs.declared.change.Change.TheVariants as changes
use Rattle.tree_dev.specs.declared.entry.Entry.{Entry}
use Rattle.tree_dev.proofs.ProjectParts.{behind_same_head}
use Rattle.tree_dev.proofs.Snoc.{without_last-snoc}
use Rattle.install_world.specs.InFlight.{Files, IsPart, draft_path, kept_path, old_path, staged_path}
use Rattle.install_world.specs.Moving.{ChangesPlaces, IsOnWay, Way}
use Rattle.install_world.specs.declared.target.Target.{Target}
use Rattle.install_world.proofs.PartFinish.{way_number, way_target}
use Rattle.install_world.proofs.PartPaths.{kept_apart, kept_is_work, staged_not_kept, target_not_work}
use Rattle.install_world.proofs.PlacesFree.{rename_to_nothing}
use Rattle.install_world.proofs.WayMoves.{entry_is}
use Rattle.vendor_journal.specs.Committing.{HasRoomFrom, IsReady}
use Rattle.vendor_journal.specs.Prepared.{IsPreparedPart}
use Rattle.vendor_journal.specs.declared.prepared.Prepared.{Prepared}
use Rattle.vendor_journal.specs.declared.prepared.PreparedPart.{PreparedPart}
use Rattle.vendor_journal.proofs.JournalPlaced.{draft_not_journal, drafted, old_stays, placed, placed_changes, same_entry, written_elsewhere, written_here}

-- ---- paths

below_name : (project rest : List (List ℕ)) (name : List ℕ) → is_root (project ++ name ∷ rest) ≡ false
below_name [] rest name = refl
below_name (x ∷ xs) rest name = refl

above_in_work : (project : List (List ℕ)) (name : List ℕ) → without_last (project ++ (codes ".install" ∷ name ∷ [])) ≡ Some (work_path project)
above_in_work project name =
    ap without_last (sym (append_assoc project (codes ".install" ∷ []) (name ∷ []))) ∙ without_last-snoc (work_path project) name

kept_in_old : (project : List (List ℕ)) (number : ℕ) → kept_path project number ≡ old_path project ++ decimal_text number ∷ []
kept_in_old project number = sym (append_assoc project (codes ".install" ∷ codes "old" ∷ []) (decimal_text number ∷ []))

draft_not_work : (project : List (List ℕ)) → behind (draft_path project) (work_path project) ≡ None
draft_not_work project = behind_same_head project (codes ".install" ∷ codes "journal.tmp" ∷ []) (codes ".install" ∷ [])

folder_is_some : (entry : Option Entry) → is_folder entry ≡ true → is_some entry ≡ true
folder_is_some None e = absurd cc
folder_is_some (Some entry) e = refl

-- `.install` is a folder where a folder is in it
work_folder : (project : List (List ℕ)) (t : FileTree) → IsTree t → is_folder (entry_at t (old_path project)) ≡ true → has_folder t (Some (work_path project)) ≡ true
work_folder project t tree old =
    let there = folder_is_some (map.get t (old_path project)) (ap is_folder (sym (entry_is t (old_path project) (below_name project (codes "old" ∷ []) (codes ".install")))) ∙ old) in
    ap (has_folder t) (sym (above_in_work project (codes "old"))) ∙ tree.below_folders (old_path project) there

free_file : (folder none file : Bool) → folder ≡ true → none ≡ true → (folder && (none || file)) ≡ true
free_file true true file p q = refl
free_file true false file p q = absurd cc
free_file false none file p q = absurd cc

module _ (way : Way) (puts : ℕ → Files) (prepared : Prepared) (t : FileTree) (tree : IsTree t) (ready : IsReady way puts prepared t) where
  folder : has_folder t (Some (work_path way.project)) ≡ true
  folder = work_folder way.project t tree ready.job.parts.old_folder

  -- the draft can be written
  pub draft_has_place : (bytes : List ℕ) → has_place t (changes.Written prepared.draft bytes) ≡ true
  unfolding has_place
  draft_has_place bytes =
      subst (λ at. has_place t (changes.Written at bytes) ≡ true) (sym ready.made_ready.draft_is)
      (free_file (has_folder t (without_last (draft_path way.project))) (is_none (entry_at t (draft_path way.project))) (is_file (entry_at t (draft_path way.project)))
      (ap (has_folder t) (above_in_work way.project (codes "journal.tmp")) ∙ folder)
      (ap is_none (entry_is t (draft_path way.project) (below_name way.project (codes "journal.tmp" ∷ []) (codes ".install")) ∙ ready.job.no_draft)))

  -- and given its name
  pub name_has_place : has_place (changed t (changes.Written prepared.draft prepared.text)) (changes.Renamed prepared.draft prepared.at) ≡ true
  name_has_place =
      subst (λ draft. has_place (changed t (changes.Written draft prepared.text)) (changes.Renamed draft prepared.at) ≡ true) (sym ready.made_ready.draft_is)
      (subst (λ at. has_place (drafted t way.project prepared.text) (changes.Renamed (draft_path way.project) at) ≡ true) (sym ready.made_ready.at_is)
      (rename_to_nothing (drafted t way.project prepared.text) (draft_path way.project) (journal_path way.project)
      (below_name way.project (codes "journal.tmp" ∷ []) (codes ".install")) (below_name way.project (codes "journal" ∷ []) (codes ".install"))
      (ap is_some (written_here t (draft_path way.project) prepared.text)) (draft_not_journal way.project)
      (ap (has_folder (drafted t way.project prepared.text)) (above_in_work way.project (codes "journal"))
      ∙ ap is_folder (same_entry t (drafted t way.project prepared.text) (work_path way.project)
      (written_elsewhere t (draft_path way.project) (work_path way.project) prepared.text (draft_not_work way.project)))
      ∙ folder)
      (written_elsewhere t (draft_path way.project) (journal_path way.project) prepared.text (draft_not_journal way.project) ∙ ready.job.no_journal.absent)))

-- nothing is in the way of what is taken away
pub room_placed : (way : Way) (puts : ℕ → Files) (prepared : Prepared) (t : FileTree) → IsReady way puts prepared t → HasRoomFrom way.project 0 (placed t way.project prepared.text)
room_placed way puts prepared t ready = record {
  free = λ number from small.
      ap (map.get (placed t way.project prepared.text)) (kept_in_old way.project number)
      ∙ old_stays way.project t (placed t way.project prepared.text) (placed_changes way.project t prepared.text) (decimal_text number ∷ [])
      ∙ ready.job.parts.old_empty (decimal_text number);
}

-- nor once a part was moved, for the parts behind it
pub room_on : (way : Way) (t : FileTree) → IsOnWay way t → (number : ℕ) (target : Target) (part : PreparedPart) → IsPreparedPart way.project number target part
    → IsPart way.journal.targets number target → (read now : FileTree) → ChangesPlaces part.places read now → HasRoomFrom way.project number read → HasRoomFrom way.project (number + 1) now
room_on way t on number target part is mine read now moves room = record {
  free = λ other from small.
      moves.others (kept_path way.project other)
      (ap (λ at. behind at (kept_path way.project other)) is.places.target_is
      ∙ target_not_work way.project (kept_path way.project other) target (way_target way t on number target mine) (kept_is_work way.project other))
      (ap (λ at. behind at (kept_path way.project other)) is.places.staged_is
      ∙ ap (behind (staged_path way.project number)) (sym (append-nil (kept_path way.project other))) ∙ staged_not_kept way.project number other [])
      (ap (λ at. behind at (kept_path way.project other)) is.places.kept_is
      ∙ ap (behind (kept_path way.project number)) (sym (append-nil (kept_path way.project other)))
      ∙ kept_apart way.project number other [] (way_number way t on number target mine) small (λ same. omega (arith, same, from)))
      ∙ room.free other (omega (arith, from)) small;
}

pub free_of : (way : Way) (t : FileTree) → IsOnWay way t → (number : ℕ) (target : Target) (part : PreparedPart) → IsPreparedPart way.project number target part
    → IsPart way.journal.targets number target → (read : FileTree) → t ≡ read → HasRoomFrom way.project number read → map.get t part.places.kept ≡ None
free_of way t on number target part is mine read same room =
    ap (λ (u : FileTree). map.get u part.places.kept) same ∙ ap (map.get read) is.places.kept_is ∙ room.free number (omega arith) (way_number way t on number target mine)
