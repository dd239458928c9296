-- The moves of a part in whatever a crash may leave.
use Rattle.std.proofs.Common.{◌≡◌, ℕ, Bool, true, false, List, [], ◌∷◌, Option, Some, None, is_some, is_none, cond, refl, sym, ap, ◌∙◌, subst, inl, inr}
use Rattle.std.specs.Prelude.{◌⊎◌, ◌&&◌, IsTrue}
use Rattle.std.specs.FinMap as map
use Rattle.tree_dev.specs.Trees.{FileTree, behind, entry_at, kind_at, kind_of}
use Rattle.tree_dev.specs.Changes.{changed, has_place, is_file, is_free, is_free_for_file, is_root}
use Rattle.tree_dev.specs.Disk.{Disks, IsOnDisk, reading}
use Rattle.tree_dev.specs.Device.{MayAdd, Meaning, OnlyRead}
use Rattle.tree_dev.specs.Steady.{EachImage, IsWhole, Through, is_write}
use Rattle.tree_dev.specs.Told.{both}
use Rattle.tree_dev.specs.declared.change.Change.{Change}
use Rattle.tree_dev.specs.declared.change.Change.TheVariants as changes
use Rattle.tree_dev.specs.declared.entry.Kind.{Kind}
use Rattle.tree_dev.specs.declared.entry.Kind.TheVariants as kinds
use Rattle.tree_dev.specs.declared.entry.Entry.{Entry}
use Rattle.tree_dev.proofs.Images.{reading_is_image}
use Rattle.tree_dev.proofs.Stretches.{through_ends, through_from}
use Rattle.tree_dev.proofs.Whole.{reading_on, through_then_change, through_then_read}
use Rattle.install_world.specs.InFlight.{IsInFlight, IsPart, IsThere, kept_path, staged_path, target_path}
use Rattle.install_world.specs.Moving.{ArePlaces, IsOnWay, Way}
use Rattle.install_world.specs.declared.moving.PartPlaces.{PartPlaces}
use Rattle.install_world.specs.declared.target.Target.{Target}
use Rattle.install_world.specs.Targets.{IsTargetPath}
use Rattle.install_world.proofs.FlightLaws.{journal_entry_stays, part_target, putting_keeps, taking_keeps, target_under}
use Rattle.install_world.proofs.PartMoves.{ChangesPart, putting_changes_part, taking_changes_part}

-- a change that writes nothing keeps what it keeps of the tree as it reads, where it has a place there
module _ (P : FileTree → Type 0) where
  pub through_then_placed : (a b d : Meaning) (change : Change) → MayAdd b d change → is_write change ≡ false → IsWhole b.disks.now
      → (IsTrue (has_place (reading b.disks.now) change) → P (reading b.disks.now) → P (changed (reading b.disks.now) change)) → Through a b P → Through a d P
  through_then_placed a b d change may quiet whole keeps run = through_then_change P a b d change may quiet whole (now_has may) run
    where
      before_has : P (reading b.disks.now)
      before_has = through_ends P a b run (reading b.disks.now) (reading_is_image b.disks.now)

      now_has : MayAdd b d change → P (reading d.disks.now)
      now_has (inl stays) = subst P (sym (ap (λ (disks : Disks). reading disks.now) stays.disks)) before_has
      now_has (inr adds) = elim (reading_on b d change (inr adds) quiet) [
        | inl same ↦ subst P (sym same) before_has
        | inr made ↦ subst P (sym made) (keeps adds.had_place before_has)
      ]

-- ---- what has a place

pub entry_is : (t : FileTree) (at : List (List ℕ)) → is_root at ≡ false → entry_at t at ≡ map.get t at
entry_is t [] e = absurd cc
entry_is t (x ∷ xs) e = refl

pub staged_under : (project : List (List ℕ)) (number : ℕ) → is_root (staged_path project number) ≡ false
staged_under [] number = refl
staged_under (x ∷ xs) number = refl

pub from_is_there : (t : FileTree) (from to : List (List ℕ)) → is_root from ≡ false → IsTrue (has_place t (changes.Renamed from to)) → IsThere t from
unfolding has_place
from_is_there t from to under place =
    let fit = cond (is_file (entry_at t from)) (is_free_for_file t to) (is_free t to) in
    let outer = both (is_some (entry_at t from) && is_none (behind from to)) fit place in
    ap is_some (sym (entry_is t from under)) ∙ (both (is_some (entry_at t from)) (is_none (behind from to)) outer.0).0

-- what is not absent is there
pub there_by_kind : (t : FileTree) (at : List (List ℕ)) (kind : Kind) → is_root at ≡ false → kind ≡ kind_at t at → (kind ≡ kinds.Absent → ⊥) → IsThere t at
unfolding kind_at
there_by_kind t at kind under is some = by (map.get t at) refl
  where
    by : (entry : Option Entry) → map.get t at ≡ entry → is_some (map.get t at) ≡ true
    by None e = absurd (some (is ∙ ap kind_of (entry_is t at under ∙ e)))
    by (Some entry) e = ap is_some e

-- ---- the moves on the way

module _ (way : Way) (number : ℕ) (target : Target) (places : PartPlaces) (are : ArePlaces way.project number target places) (part : IsPart way.journal.targets number target) where
  pub after_part : (t now : FileTree) → IsOnWay way t → ChangesPart way.project number target t now
      → IsInFlight way.project way.surroundings way.old way.new now → IsOnWay way now
  after_part t now on change flight =
      let is = part_target way.project t way.journal on.stands number target part in
      let entry = journal_entry_stays way.project t now number target is change in
      record {
        flight = flight;
        stands = record { text = on.stands.text; there = entry ∙ on.stands.there; says = on.stands.says };
        small = λ text there. on.small text (sym entry ∙ there);
      }

  take_is : changes.Renamed places.target places.kept ≡ changes.Renamed (target_path way.project target) (kept_path way.project number)
  take_is = let one = are.target_is in let two = are.kept_is in cc

  put_is : changes.Renamed places.staged places.target ≡ changes.Renamed (staged_path way.project number) (target_path way.project target)
  put_is = let one = are.target_is in let two = are.staged_is in cc

  pub taken_on_way : (t : FileTree) → (target.gone ≡ true) ⊎ IsThere t places.staged → IsTrue (has_place t (changes.Renamed places.target places.kept)) → IsOnWay way t
      → IsOnWay way (changed t (changes.Renamed places.target places.kept))
  taken_on_way t why place on =
      let is = part_target way.project t way.journal on.stands number target part in
      subst (λ change. IsOnWay way (changed t change)) (sym take_is)
      (after_part t (changed t (changes.Renamed (target_path way.project target) (kept_path way.project number))) on
      (taking_changes_part way.project number target is t)
      (taking_keeps way.project way.surroundings way.old way.new t way.journal on.stands (on.small on.stands.text on.stands.there) on.flight number target part (by is why)))
    where
      by : IsTargetPath target.path → (target.gone ≡ true) ⊎ IsThere t places.staged
          → (target.gone ≡ true) ⊎ (IsThere t (staged_path way.project number) × IsThere t (target_path way.project target))
      by is (inl gone) = inl gone
      by is (inr there) = inr (
        subst (IsThere t) are.staged_is there,
        from_is_there t (target_path way.project target) (kept_path way.project number) (target_under way.project target is)
            (subst (λ change. IsTrue (has_place t change)) take_is place),
      )

  pub put_on_way : (t : FileTree) → target.gone ≡ false → IsTrue (has_place t (changes.Renamed places.staged places.target)) → IsOnWay way t
      → IsOnWay way (changed t (changes.Renamed places.staged places.target))
  put_on_way t stays place on =
      let is = part_target way.project t way.journal on.stands number target part in
      subst (λ change. IsOnWay way (changed t change)) (sym put_is)
      (after_part t (changed t (changes.Renamed (staged_path way.project number) (target_path way.project target))) on
      (putting_changes_part way.project number target is t)
      (putting_keeps way.project way.surroundings way.old way.new t way.journal on.stands (on.small on.stands.text on.stands.there) on.flight number target part stays
      (from_is_there t (staged_path way.project number) (target_path way.project target) (staged_under way.project number)
      (subst (λ change. IsTrue (has_place t change)) put_is place))))

  -- ---- in whatever a crash may leave

  pub read_through : (a b : Meaning) (failed : Bool) → OnlyRead a b failed → EachImage a (IsOnWay way) → Through a b (IsOnWay way)
  read_through a b failed read each = through_then_read (IsOnWay way) a a b failed read (through_from (IsOnWay way) a each)

  pub gone_through : (a b d : Meaning) → target.gone ≡ true → IsWhole b.disks.now → MayAdd b d (changes.Renamed places.target places.kept)
      → Through a b (IsOnWay way) → Through a d (IsOnWay way)
  gone_through a b d gone whole may run =
      through_then_placed (IsOnWay way) a b d (changes.Renamed places.target places.kept) may refl whole
      (λ place on. taken_on_way (reading b.disks.now) (inl gone) place on) run

  pub take_through : (a b d : Meaning) → IsThere (reading b.disks.now) places.staged → IsWhole b.disks.now → MayAdd b d (changes.Renamed places.target places.kept)
      → Through a b (IsOnWay way) → Through a d (IsOnWay way)
  take_through a b d there whole may run =
      through_then_placed (IsOnWay way) a b d (changes.Renamed places.target places.kept) may refl whole
      (λ place on. taken_on_way (reading b.disks.now) (inr there) place on) run

  pub put_through : (a b d : Meaning) → target.gone ≡ false → IsWhole b.disks.now → MayAdd b d (changes.Renamed places.staged places.target)
      → Through a b (IsOnWay way) → Through a d (IsOnWay way)
  put_through a b d stays whole may run =
      through_then_placed (IsOnWay way) a b d (changes.Renamed places.staged places.target) may refl whole
      (λ place on. put_on_way (reading b.disks.now) stays place on) run

-- what is there in the tree that is told is there in the tree as it reads, after calls that only read
pub told_there : (a b : Meaning) (failed : Bool) (t : FileTree) (at : List (List ℕ)) → OnlyRead a b failed → IsOnDisk a.disks.now t → IsThere t at
    → IsThere (reading b.disks.now) at
told_there a b failed t at read on there =
    subst (λ (u : FileTree). IsThere u at) (on.reads ∙ ap (λ (disks : Disks). reading disks.now) (sym read.disks)) there
