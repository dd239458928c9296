-- Where recovery stops at a part, the parts before it are done, and it and those behind it are not begun.
use Rattle.std.proofs.Common.{◌≡◌, ◌≢◌, ℕ, ◌<◌, ◌≤◌, true, false, Bool, List, [], ◌++◌, Option, Some, None, refl, sym, ap, ◌∙◌, subst, arith, append-nil}
use Rattle.std.specs.FinMap as map
use Rattle.tree_dev.specs.Trees.{FileTree, IsTree, behind}
use Rattle.tree_dev.specs.Projects.{bytes_of, file_at, is_project_part, is_within, work_path}
use Rattle.install_world.specs.Finishing.{FinishesAlike, MakesReady, OnlyMade, Stands, StopsAt}
use Rattle.install_world.specs.InFlight.{HasJournal, IsPart, IsPartDone, Placed, finished_by, finished_file, kept_path, part_at, staged_path, target_path}
use Rattle.install_world.specs.JournalText.{Says}
use Rattle.install_world.specs.Moving.{ArePlaces, ChangesPlaces}
use Rattle.install_world.specs.Targets.{AreTargetsApart, IsTargetPath}
use Rattle.install_world.specs.declared.journal.Journal.{Journal}
use Rattle.install_world.specs.declared.moving.PartPlaces.{PartPlaces}
use Rattle.install_world.specs.declared.target.Target.{Target}
use Rattle.install_world.proofs.FinishSteps.{made_elsewhere, made_files, stands_apart, stands_target}
use Rattle.install_world.proofs.Finished.{found_part}
use Rattle.install_world.proofs.FlightLaws.{part_done_is_own}
use Rattle.install_world.proofs.OneJournal.{one_journal}
use Rattle.install_world.proofs.PartCleared.{removed_else}
use Rattle.install_world.proofs.PartPaths.{kept_is_work, staged_is_work, target_is_part, targets_apart, work_not_part}

-- ---- what a part leaves of another

module _ (project : List (List ℕ)) (number : ℕ) (target other : Target) (places : PartPlaces) (are : ArePlaces project number target places) (is_other : IsTargetPath other.path)
    (apart : AreTargetsApart target other) (below : List (List ℕ)) where
  not_in_work : (at : List (List ℕ)) → is_within (work_path project) at ≡ true → behind at (target_path project other ++ below) ≡ None
  not_in_work at work = work_not_part project at (target_path project other ++ below) work (target_is_part project below other is_other)

  pub ready_leaves : (t u : FileTree) → MakesReady (target_path project target) places.kept t u
      → file_at u (target_path project other ++ below) ≡ file_at t (target_path project other ++ below)
  ready_leaves t u ready =
      ap bytes_of (removed_else places.kept (target_path project other ++ below) ready.between u ready.removed
      (ap (λ at. behind at (target_path project other ++ below)) are.kept_is ∙ not_in_work (kept_path project number) (kept_is_work project number)))
      ∙ made_files (target_path project target) (target_path project other ++ below) t ready.between ready.made

  pub moves_leave : (t u : FileTree) → ChangesPlaces places t u → file_at u (target_path project other ++ below) ≡ file_at t (target_path project other ++ below)
  moves_leave t u moves = ap bytes_of (moves.others (target_path project other ++ below)
      (ap (λ at. behind at (target_path project other ++ below)) are.target_is ∙ targets_apart project below target other apart)
      (ap (λ at. behind at (target_path project other ++ below)) are.staged_is ∙ not_in_work (staged_path project number) (staged_is_work project number))
      (ap (λ at. behind at (target_path project other ++ below)) are.kept_is ∙ not_in_work (kept_path project number) (kept_is_work project number)))

-- ---- where it stops

module _ (project : List (List ℕ)) (journal : Journal) (t u : FileTree) (stands : Stands project journal u) (tree : IsTree u) (alike : FinishesAlike project journal t u) (number : ℕ)
    (done : (j : ℕ) (other : Target) → j < number → IsPart journal.targets j other → IsPartDone other.gone project j other u)
    (left : (j : ℕ) (other : Target) → number ≤ j → IsPart journal.targets j other → (below : List (List ℕ))
    → file_at u (target_path project other ++ below) ≡ file_at t (target_path project other ++ below)) where
  left_at : (path : List (List ℕ)) → is_project_part project path ≡ true → (found : Option Placed) → part_at project journal.targets path ≡ found
      → ((part : Placed) → part_at project journal.targets path ≡ Some part → number ≤ part.number) → file_at u path ≡ file_at t path
  unfolding finished_by
  left_at path in_project None e behind =
      sym (ap (finished_file project u path) e) ∙ alike.each path in_project ∙ ap (finished_file project t path) e
  left_at path in_project (Some part) e behind =
      let found = found_part project path journal.targets part e in
      let more = behind part e in
      let index = found.number in
      ap (file_at u) found.path_is ∙ left found.index found.target (omega (arith, more, index)) found.is_part part.below ∙ sym (ap (file_at t) found.path_is)

  pub stops_at : StopsAt project journal number t u
  stops_at = record {
    done = λ path in_project part e less.
        let found = found_part project path journal.targets part e in
        let index = found.number in
        sym (part_done_is_own project u journal stands.has tree path part e found (done found.index found.target (omega (arith, less, index)) found.is_part)) ∙ alike.each path in_project;
    left = λ path in_project behind. left_at path in_project (part_at project journal.targets path) refl behind;
  }

-- nothing was begun
pub stops_at_once : (project : List (List ℕ)) (journal : Journal) (t u : FileTree) → ((path : List (List ℕ)) → file_at u path ≡ file_at t path) → StopsAt project journal 0 t u
stops_at_once project journal t u same = record {
  done = λ path in_project part e less. absurd (omega (arith, less));
  left = λ path in_project behind. same path;
}

-- what was done before leaves the files, and what finishing makes of them
pub stops_after : (project : List (List ℕ)) (journal : Journal) (number : ℕ) (t v u : FileTree) → ((path : List (List ℕ)) → file_at v path ≡ file_at t path) → FinishesAlike project journal t v
    → StopsAt project journal number v u → StopsAt project journal number t u
stops_after project journal number t v u same alike stops = record {
  done = λ path in_project part e less. stops.done path in_project part e less ∙ alike.each path in_project;
  left = λ path in_project behind. stops.left path in_project behind ∙ same path;
}

pub made_leaves : (at path : List (List ℕ)) (t u : FileTree) → OnlyMade at t u → file_at u path ≡ file_at t path
made_leaves at path t u made = made_files at path t u made

pub same_journal : (project : List (List ℕ)) (journal other : Journal) (t : FileTree) → Stands project journal t → HasJournal project t other → journal ≡ other
same_journal project journal other t stands has =
    let both = sym has.there ∙ stands.has.there in
    let text : has.text ≡ stands.has.text = cc in
    one_journal stands.has.text journal other stands.small stands.has.says (subst (λ bytes. Says bytes other) text has.says)

-- parts that are done stay so where folders alone were made above another target
pub made_stays : (project : List (List ℕ)) (journal : Journal) (number j : ℕ) (target other : Target) (t : FileTree) → Stands project journal t → IsPart journal.targets number target
    → IsPart journal.targets j other → number ≢ j → (v u : FileTree) → OnlyMade (target_path project target) v u → t ≡ v → IsPartDone other.gone project j other v → IsPartDone other.gone project j other u
made_stays project journal number j target other t stands mine there differs v u made same done = by other.gone done
  where
    away : map.get u (target_path project other) ≡ map.get v (target_path project other)
    away = made_elsewhere (target_path project target) (target_path project other) v u made
        (ap (behind (target_path project other)) (sym (append-nil (target_path project target)))
        ∙ targets_apart project [] other target (stands_apart project journal t stands j number other target (λ e. differs (sym e)) there mine))

    staged : map.get u (staged_path project j) ≡ map.get v (staged_path project j)
    staged = made_elsewhere (target_path project target) (staged_path project j) v u made
        (ap (behind (staged_path project j)) (sym (append-nil (target_path project target)))
        ∙ work_not_part project (staged_path project j) (target_path project target ++ []) (staged_is_work project j)
        (target_is_part project [] target (stands_target project journal t stands number target mine)))

    by : (gone : Bool) → IsPartDone gone project j other v → IsPartDone gone project j other u
    by true is = away ∙ is
    by false is = staged ∙ is
