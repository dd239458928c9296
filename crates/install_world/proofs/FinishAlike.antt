-- What finishing makes of a tree is not changed by the moves of a part, whether the tree is in flight or not.
use Rattle.std.proofs.Common.{◌≡◌, ◌≢◌, ℕ, ◌<◌, ◌^◌, Bool, true, false, cond, List, [], ◌++◌, length, Option, Some, None, is_some, refl, sym, ap, ◌∙◌, subst, inl, inr, arith, append-nil}
use Rattle.std.specs.Prelude.{◌⊎◌}
use Rattle.std.specs.FinMap as map
use Rattle.std.proofs.lemmas.Bool.{cases_eq}
use Rattle.std.proofs.lemmas.Option.{slice_get_within}
use Rattle.tree_dev.specs.Trees.{FileTree}
use Rattle.tree_dev.specs.Changes.{changed}
use Rattle.tree_dev.specs.Projects.{bytes_of, file_at, is_project_part}
use Rattle.tree_dev.specs.declared.change.Change.TheVariants.{Renamed}
use Rattle.install_world.specs.InFlight.{HasJournal, IsPart, IsThere, Placed, finished_by, finished_file, kept_path, part_at, staged_path, target_path}
use Rattle.install_world.specs.Targets.{AreTargetsApart, IsTargetPath}
use Rattle.install_world.specs.declared.journal.Journal.{Journal}
use Rattle.install_world.specs.declared.target.Target.{Target}
use Rattle.install_world.proofs.Finished.{FoundPart, found_part, placing}
use Rattle.install_world.proofs.FlightLaws.{few, part_target}
use Rattle.install_world.proofs.PartMoves.{ChangesPart, at_no_target, putting_changes_part, renamed_away, renamed_elsewhere, renamed_here, taking_changes_part}
use Rattle.install_world.proofs.PartPaths.{behind_itself, kept_is_work, kept_not_staged, staged_apart, staged_in_work, staged_is_work, target_is_part, target_not_work, targets_apart, two_parts_apart, work_not_part}

-- the part itself is finished to the same
abbrev pub PartAlike : List (List ℕ) → ℕ → Target → FileTree → FileTree → Type 0
PartAlike project number target t u = (below : List (List ℕ)) → finished_file project u (target_path project target ++ below) (Some (placing number target.gone below))
    ≡ finished_file project t (target_path project target ++ below) (Some (placing number target.gone below))

both_gone : (gone : Bool) (a b : Option (List ℕ)) → gone ≡ true → cond gone None a ≡ cond gone None b
both_gone true a b e = refl
both_gone false a b e = absurd cc

pub same_file : (gone there now : Bool) (a b x y : Option (List ℕ)) → now ≡ there → a ≡ b → x ≡ y → cond gone None (cond now a x) ≡ cond gone None (cond there b y)
same_file gone there now a b x y p q r =
    ap (λ n. cond gone None (cond n a x)) p ∙ ap (λ f. cond gone None (cond there f x)) q ∙ ap (λ f. cond gone None (cond there b f)) r

module _ (project : List (List ℕ)) (t : FileTree) (journal : Journal) (stands : HasJournal project t journal) (small : length stands.text < 2 ^ 64) where
  number_small : (number : ℕ) (target : Target) → IsPart journal.targets number target → number < 2 ^ 64
  number_small number target part =
      let inside = slice_get_within journal.targets number target part in
      let all = few project t journal stands small in
      omega arith

  target_is : (number : ℕ) (target : Target) → IsPart journal.targets number target → IsTargetPath target.path
  target_is number target part = part_target project t journal stands number target part

  apart_are : (i j : ℕ) (first second : Target) → i ≢ j → IsPart journal.targets i first → IsPart journal.targets j second → AreTargetsApart first second
  apart_are i j first second other one two = two_parts_apart journal.targets i j first second stands.says.is_journal.job.apart one two other

  module _ (number : ℕ) (target : Target) (mine : IsPart journal.targets number target) (u : FileTree) (change : ChangesPart project number target t u)
      (own : PartAlike project number target t u) where
    -- at no target
    outside : (path : List (List ℕ)) → is_project_part project path ≡ true → part_at project journal.targets path ≡ None → file_at u path ≡ file_at t path
    outside path in_project none =
        ap bytes_of (change.others path (at_no_target number project path journal.targets target none mine)
        (work_not_part project (staged_path project number) path (staged_is_work project number) in_project)
        (work_not_part project (kept_path project number) path (kept_is_work project number) in_project))

    -- what is staged of another part
    staged_other : (j : ℕ) (other : Target) (below : List (List ℕ)) → IsPart journal.targets j other → number ≢ j
        → map.get u (staged_path project j ++ below) ≡ map.get t (staged_path project j ++ below)
    staged_other j other below there differs =
        change.others (staged_path project j ++ below)
        (target_not_work project (staged_path project j ++ below) target (target_is number target mine) (staged_in_work project j below))
        (staged_apart project number j below (number_small number target mine) (number_small j other there) differs)
        (kept_not_staged project number j below)

    target_other : (j : ℕ) (other : Target) (below : List (List ℕ)) → IsPart journal.targets j other → number ≢ j
        → map.get u (target_path project other ++ below) ≡ map.get t (target_path project other ++ below)
    target_other j other below there differs =
        change.others (target_path project other ++ below) (targets_apart project below target other (apart_are number j target other differs mine there))
        (work_not_part project (staged_path project number) (target_path project other ++ below) (staged_is_work project number) (target_is_part project below other (target_is j other there)))
        (work_not_part project (kept_path project number) (target_path project other ++ below) (kept_is_work project number) (target_is_part project below other (target_is j other there)))

    of_other : (j : ℕ) (other : Target) → IsPart journal.targets j other → number ≢ j → PartAlike project j other t u
    of_other j other there differs below =
        same_file other.gone (is_some (map.get t (staged_path project j))) (is_some (map.get u (staged_path project j)))
        (file_at u (staged_path project j ++ below)) (file_at t (staged_path project j ++ below)) (file_at u (target_path project other ++ below)) (file_at t (target_path project other ++ below))
        (ap (λ p. is_some (map.get u p)) (sym (append-nil (staged_path project j))) ∙ ap is_some (staged_other j other [] there differs) ∙ ap (λ p. is_some (map.get t p)) (append-nil (staged_path project j)))
        (ap bytes_of (staged_other j other below there differs)) (ap bytes_of (target_other j other below there differs))

    of_each : (j : ℕ) (other : Target) → IsPart journal.targets j other → PartAlike project j other t u
    of_each j other there = elim (cases_eq number j) [
      | inl same ↦ (
          let again : IsPart journal.targets j target = subst (λ n. IsPart journal.targets n target) same mine in
          let is : target ≡ other = cc in
          subst (λ (x : Target). PartAlike project j x t u) is (subst (λ n. PartAlike project n target t u) same own))
      | inr differs ↦ of_other j other there differs
    ]

    pub finishes_alike : (path : List (List ℕ)) → is_project_part project path ≡ true → finished_by project journal.targets u path ≡ finished_by project journal.targets t path
    unfolding finished_by
    finishes_alike path in_project = by (part_at project journal.targets path) refl
      where
        at_part : (part : Placed) → FoundPart project journal.targets path part 0 → finished_file project u path (Some part) ≡ finished_file project t path (Some part)
        at_part part found =
            let number_is : part.number ≡ found.index = found.number ∙ omega arith in
            let gone_is : part.gone ≡ found.target.gone = found.gone in
            let part_is : part ≡ placing found.index found.target.gone part.below
            = ap (λ n. placing n part.gone part.below) number_is ∙ ap (λ g. placing found.index g part.below) gone_is in
            ap (λ (p : List (List ℕ)). finished_file project u p (Some part)) found.path_is
            ∙ ap (λ (p : Placed). finished_file project u (target_path project found.target ++ part.below) (Some p)) part_is
            ∙ of_each found.index found.target found.is_part part.below
            ∙ sym (ap (λ (p : List (List ℕ)). finished_file project t p (Some part)) found.path_is
            ∙ ap (λ (p : Placed). finished_file project t (target_path project found.target ++ part.below) (Some p)) part_is)

        by : (found : Option Placed) → part_at project journal.targets path ≡ found
            → finished_file project u path (part_at project journal.targets path) ≡ finished_file project t path (part_at project journal.targets path)
        by None e =
            ap (finished_file project u path) e ∙ outside path in_project e ∙ sym (ap (finished_file project t path) e)
        by (Some part) e =
            ap (finished_file project u path) e ∙ at_part part (found_part project path journal.targets part e) ∙ sym (ap (finished_file project t path) e)

  -- ---- the moves

  taking_own : (number : ℕ) (target : Target) → IsPart journal.targets number target → (gone : Bool) → target.gone ≡ gone → (gone ≡ true) ⊎ IsThere t (staged_path project number)
      → PartAlike project number target t (changed t (Renamed (target_path project target) (kept_path project number)))
  taking_own number target mine true is why below =
      let taken = changed t (Renamed (target_path project target) (kept_path project number)) in
      both_gone target.gone
      (cond (is_some (map.get taken (staged_path project number))) (file_at taken (staged_path project number ++ below)) (file_at taken (target_path project target ++ below)))
      (cond (is_some (map.get t (staged_path project number))) (file_at t (staged_path project number ++ below)) (file_at t (target_path project target ++ below))) is
  taking_own number target mine false is (inl wrong) below = absurd cc
  taking_own number target mine false is (inr there) below =
      let taken = changed t (Renamed (target_path project target) (kept_path project number)) in
      let staged_same : (rest : List (List ℕ)) → map.get taken (staged_path project number ++ rest) ≡ map.get t (staged_path project number ++ rest)
      = λ rest. renamed_elsewhere t (target_path project target) (kept_path project number) (staged_path project number ++ rest) (kept_not_staged project number number rest)
      (target_not_work project (staged_path project number ++ rest) target (target_is number target mine) (staged_in_work project number rest)) in
      let itself : map.get taken (staged_path project number) ≡ map.get t (staged_path project number)
      = ap (map.get taken) (sym (append-nil (staged_path project number))) ∙ staged_same [] ∙ ap (map.get t) (append-nil (staged_path project number)) in
      ap (λ now. cond target.gone None (cond now (file_at taken (staged_path project number ++ below)) (file_at taken (target_path project target ++ below)))) (ap is_some itself ∙ there)
      ∙ ap (cond target.gone None) (ap bytes_of (staged_same below))
      ∙ sym (ap (λ now. cond target.gone None (cond now (file_at t (staged_path project number ++ below)) (file_at t (target_path project target ++ below)))) there)

  -- what stands at a target is taken away
  pub taking_finishes_alike : (number : ℕ) (target : Target) → IsPart journal.targets number target → (target.gone ≡ true) ⊎ IsThere t (staged_path project number)
      → (path : List (List ℕ)) → is_project_part project path ≡ true
      → finished_by project journal.targets (changed t (Renamed (target_path project target) (kept_path project number))) path ≡ finished_by project journal.targets t path
  taking_finishes_alike number target mine why =
      finishes_alike number target mine (changed t (Renamed (target_path project target) (kept_path project number))) (taking_changes_part project number target (target_is number target mine) t)
      (taking_own number target mine target.gone refl why)

  -- what is staged is put at its target
  pub putting_finishes_alike : (number : ℕ) (target : Target) → IsPart journal.targets number target → target.gone ≡ false → IsThere t (staged_path project number)
      → (path : List (List ℕ)) → is_project_part project path ≡ true
      → finished_by project journal.targets (changed t (Renamed (staged_path project number) (target_path project target))) path ≡ finished_by project journal.targets t path
  putting_finishes_alike number target mine stays there =
      finishes_alike number target mine (changed t (Renamed (staged_path project number) (target_path project target))) (putting_changes_part project number target (target_is number target mine) t) own
    where
      put : FileTree
      put = changed t (Renamed (staged_path project number) (target_path project target))

      away : map.get put (staged_path project number) ≡ None
      away = renamed_away t (staged_path project number) (target_path project target) (staged_path project number) []
          (target_not_work project (staged_path project number) target (target_is number target mine) (staged_is_work project number)) (behind_itself (staged_path project number))

      own : PartAlike project number target t (changed t (Renamed (staged_path project number) (target_path project target)))
      own below =
          ap (λ now. cond target.gone None (cond now (file_at put (staged_path project number ++ below)) (file_at put (target_path project target ++ below)))) (ap is_some away)
          ∙ ap (cond target.gone None) (ap bytes_of (renamed_here t (staged_path project number) (target_path project target) below))
          ∙ sym (ap (λ now. cond target.gone None (cond now (file_at t (staged_path project number ++ below)) (file_at t (target_path project target ++ below)))) there)
