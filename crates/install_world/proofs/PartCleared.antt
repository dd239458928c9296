-- What is kept of a part may be removed while the part is still to be moved.
use Rattle.std.proofs.Common.{◌≡◌, ℕ, Bool, true, false, List, ◌++◌, None, is_some, sym, ap, ◌∙◌, subst, inl, inr}
use Rattle.std.specs.Prelude.{◌⊎◌}
use Rattle.std.specs.FinMap as map
use Rattle.tree_dev.specs.Trees.{FileTree, behind}
use Rattle.tree_dev.specs.Disk.{Disks, IsImage, made, moment, reading}
use Rattle.tree_dev.specs.Device.{MaySettle, Meaning, OnlyRead, Settles}
use Rattle.tree_dev.specs.Projects.{is_within}
use Rattle.tree_dev.specs.Steady.{EachImage, Through}
use Rattle.tree_dev.proofs.Images.{one_image_settled}
use Rattle.tree_dev.proofs.Moments.{image_now, later_moment}
use Rattle.tree_dev.proofs.Stretches.{through_on}
use Rattle.install_world.specs.InFlight.{Files, IsPart, IsThere, PartInFlight, kept_path, staged_path, target_path}
use Rattle.install_world.specs.Moving.{ArePlaces, IsOnWay, Way}
use Rattle.install_world.specs.Removals.{OnlyRemoved, Removes}
use Rattle.install_world.specs.Targets.{IsTargetPath}
use Rattle.install_world.specs.declared.moving.PartPlaces.{PartPlaces}
use Rattle.install_world.specs.declared.target.Target.{Target}
use Rattle.tree_dev.specs.Changes.{is_root}
use Rattle.install_world.proofs.FlightLaws.{part_on_way, stays_in_flight, target_under}
use Rattle.install_world.proofs.PartMoves.{Agree, ChangesPart, agree_at, files_stay, staged_stays}
use Rattle.install_world.proofs.PartPaths.{kept_is_work, kept_not_staged, target_is_part, work_not_part}
use Rattle.install_world.proofs.RemovalRules.{removed_itself}
use Rattle.install_world.proofs.WayMoves.{after_part}

-- elsewhere than at and below the path nothing changed
pub removed_else : (at path : List (List ℕ)) (t left : FileTree) → OnlyRemoved at t left → behind at path ≡ None → map.get left path ≡ map.get t path
removed_else at path t left removed out = elim (removed.each path) [
  | inl same ↦ same
  | inr gone ↦ let no : is_within at path ≡ false = ap is_some out in let yes_within = gone.0 in absurd cc
]

module _ (project : List (List ℕ)) (number : ℕ) (target : Target) (is : IsTargetPath target.path) (t left : FileTree)
    (removed : OnlyRemoved (kept_path project number) t left) where
  pub cleared_changes_part : ChangesPart project number target t left
  cleared_changes_part = record { others = λ path at staged kept. removed_else (kept_path project number) path t left removed kept }

  target_agrees : Agree t left (target_path project target)
  target_agrees = record {
    each = λ below. removed_else (kept_path project number) (target_path project target ++ below) t left removed
        (work_not_part project (kept_path project number) (target_path project target ++ below) (kept_is_work project number) (target_is_part project below target is));
  }

  staged_agrees : Agree t left (staged_path project number)
  staged_agrees = record {
    each = λ below. removed_else (kept_path project number) (staged_path project number ++ below) t left removed (kept_not_staged project number number below);
  }

  pub cleared_part : (old new : Files) (gone : Bool) → IsThere t (target_path project target) → (gone ≡ true) ⊎ IsThere t (staged_path project number)
      → PartInFlight gone project old new number target t → PartInFlight gone project old new number target left
  cleared_part old new true there why going = record {
    unstaged = agree_at t left (staged_path project number) staged_agrees ∙ going.unstaged;
    target_either = elim going.target_either [
      | inl as_before ↦ inl (files_stay t left (target_path project target) (target_path project target) old target_agrees as_before)
      | inr absent ↦ inr (agree_at t left (target_path project target) target_agrees ∙ absent)
    ];
  }
  cleared_part old new false there why (inl is_not_begun) = inl (record {
    target_as_before = files_stay t left (target_path project target) (target_path project target) old target_agrees is_not_begun.target_as_before;
    staged = staged_stays project old new number target t left staged_agrees is_not_begun.staged;
  })
  cleared_part old new false there why (inr (inl taken)) = let none = ap is_some taken.target_absent in let some = there in absurd cc
  cleared_part old new false there (inl wrong) (inr (inr done)) = absurd cc
  cleared_part old new false there (inr source) (inr (inr done)) = let none = ap is_some done.unstaged in let some = source in absurd cc

module _ (way : Way) (number : ℕ) (target : Target) (places : PartPlaces) (are : ArePlaces way.project number target places) (part : IsPart way.journal.targets number target) where
  pub cleared_on_way : (t left : FileTree) → IsThere t places.target → (target.gone ≡ true) ⊎ IsThere t places.staged → OnlyRemoved places.kept t left → IsOnWay way t → IsOnWay way left
  cleared_on_way t left there why removed on =
      let small = on.small on.stands.text on.stands.there in
      let here : OnlyRemoved (kept_path way.project number) t left = subst (λ at. OnlyRemoved at t left) are.kept_is removed in
      let at_target : IsThere t (target_path way.project target) = subst (IsThere t) are.target_is there in
      let change = cleared_changes_part way.project number target are.is_target t left here in
      after_part way number target places are part t left on change
      (stays_in_flight way.project way.surroundings way.old way.new t way.journal on.stands small on.flight number target left part change
      (cleared_part way.project number target are.is_target t left here way.old way.new target.gone at_target (by why)
      (part_on_way way.project way.surroundings way.old way.new t way.journal on.stands small on.flight number target part)))
    where
      by : (target.gone ≡ true) ⊎ IsThere t places.staged → (target.gone ≡ true) ⊎ IsThere t (staged_path way.project number)
      by (inl gone) = inl gone
      by (inr source) = inr (subst (IsThere t) are.staged_is source)

-- what only removals below a path keep of the one tree that a barrier left
pub through_cleared : (P : FileTree → Type 0) (at : List (List ℕ)) (t : FileTree) → ((left : FileTree) → OnlyRemoved at t left → P left)
    → (a b d e : Meaning) → Settles b d → reading b.disks.now ≡ t → Removes at d e → Through a d P → Through a e P
through_cleared P at t keeps a b d e settles reads removes run =
    through_on P a d e run (record {
      later = removes.later;
      each = λ left since.
          let found = removes.each left since in
          let one : found.0 ≡ t = one_image_settled b.disks found.0 (subst (λ (disks : Disks). IsImage disks.now found.0) settles.disks found.1) ∙ reads in
          keeps left (subst (λ was. OnlyRemoved at was left) one found.2);
      faults = removes.faults;
    })

-- each tree that a crash leaves then is that one, but for what was removed
pub images_cleared : (at : List (List ℕ)) (t : FileTree) (b d e : Meaning) → Settles b d → reading b.disks.now ≡ t → Removes at d e → EachImage e (OnlyRemoved at t)
images_cleared at t b d e settles reads removes = λ left image.
    let found = removes.each left (image_now e.disks (moment d.disks) left (later_moment d.disks e.disks removes.later) image) in
    let one : found.0 ≡ t = one_image_settled b.disks found.0 (subst (λ (disks : Disks). IsImage disks.now found.0) settles.disks found.1) ∙ reads in
    subst (λ was. OnlyRemoved at was left) one found.2

-- a target is never the root
pub places_under : (project : List (List ℕ)) (number : ℕ) (target : Target) (places : PartPlaces) → ArePlaces project number target places → is_root places.target ≡ false
places_under project number target places are = ap is_root are.target_is ∙ target_under project target are.is_target

-- a barrier changes no entry
pub barrier_keeps_reading : (b d : Meaning) → MaySettle b d → reading d.disks.now ≡ reading b.disks.now
unfolding made
barrier_keeps_reading b d (inl stays) = ap (λ (disks : Disks). reading disks.now) stays.disks
barrier_keeps_reading b d (inr settles) = ap (λ (disks : Disks). reading disks.now) settles.disks

pub removed_barrier : (at : List (List ℕ)) (b d : Meaning) → MaySettle b d → OnlyRemoved at (reading b.disks.now) (reading d.disks.now)
removed_barrier at b d may = subst (OnlyRemoved at (reading b.disks.now)) (sym (barrier_keeps_reading b d may)) (removed_itself at (reading b.disks.now))

pub removed_read : (at : List (List ℕ)) (b d : Meaning) (failed : Bool) → OnlyRead b d failed → OnlyRemoved at (reading b.disks.now) (reading d.disks.now)
removed_read at b d failed read =
    subst (OnlyRemoved at (reading b.disks.now)) (sym (ap (λ (disks : Disks). reading disks.now) read.disks)) (removed_itself at (reading b.disks.now))
