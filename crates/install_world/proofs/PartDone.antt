-- What the moves of a part change, and that it is done after them.
use Rattle.std.proofs.Common.{◌≡◌, ℕ, Bool, true, false, List, [], ◌∷◌, ◌++◌, Option, Some, None, is_some, refl, sym, ap, ◌∙◌, subst, inl, inr, append-nil}
use Rattle.std.specs.FinMap as map
use Rattle.tree_dev.specs.Trees.{FileTree, behind, kind_at, kind_of}
use Rattle.tree_dev.specs.Changes.{changed}
use Rattle.tree_dev.specs.Disk.{Disks, IsOnDisk, made, reading}
use Rattle.tree_dev.specs.Device.{Adds, MayAdd, Meaning, OnlyRead}
use Rattle.tree_dev.specs.declared.change.Change.{Change}
use Rattle.tree_dev.specs.declared.change.Change.TheVariants as changes
use Rattle.tree_dev.specs.declared.entry.Kind.{Kind}
use Rattle.tree_dev.specs.declared.entry.Kind.TheVariants as kinds
use Rattle.tree_dev.specs.declared.entry.Entry.{Entry}
use Rattle.tree_dev.specs.declared.entry.Entry.TheVariants as entries
use Rattle.tree_dev.proofs.Whole.{reading_on}
use Rattle.install_world.specs.InFlight.{kept_path, staged_path, target_path}
use Rattle.install_world.specs.Moving.{ArePlaces, ChangesPlaces}
use Rattle.install_world.specs.declared.moving.PartPlaces.{PartPlaces}
use Rattle.install_world.specs.declared.target.Target.{Target}
use Rattle.install_world.proofs.PartMoves.{renamed_away, renamed_elsewhere}
use Rattle.install_world.proofs.PartPaths.{behind_itself, kept_is_work, staged_is_work, target_is_part, target_not_work, work_not_part}

-- ---- readings

pub reads_same : (b d : Meaning) (failed : Bool) → OnlyRead b d failed → reading d.disks.now ≡ reading b.disks.now
reads_same b d failed read = ap (λ (disks : Disks). reading disks.now) read.disks

pub reads_after : (b d : Meaning) (change : Change) → Adds b d change → reading d.disks.now ≡ changed (reading b.disks.now) change
unfolding made
reads_after b d change adds = ap (λ (disks : Disks). reading disks.now) adds.disks

pub told_still : (b d : Meaning) (t : FileTree) → is_some d.told ≡ is_some b.told → b.told ≡ Some t → (u : FileTree) × (d.told ≡ Some u)
told_still b d t same told = by d.told refl
  where
    by : (now : Option FileTree) → d.told ≡ now → (u : FileTree) × (d.told ≡ Some u)
    by None e = let none : is_some d.told ≡ false = ap is_some e in let some : is_some b.told ≡ true = ap is_some told in absurd cc
    by (Some u) e = (u, e)

-- what is absent is not there
pub absent_is_none : (t : FileTree) (at : List (List ℕ)) (kind : Kind) → kind ≡ kind_at t at → kind ≡ kinds.Absent → map.get t at ≡ None
unfolding kind_at
absent_is_none t [] kind is absent = absurd cc
absent_is_none t (x ∷ xs) kind is absent = by (map.get t (x ∷ xs)) refl (sym is ∙ absent)
  where
    by : (entry : Option Entry) → map.get t (x ∷ xs) ≡ entry → kind_of (map.get t (x ∷ xs)) ≡ kinds.Absent → map.get t (x ∷ xs) ≡ None
    by None e k = e
    by (Some (entries.File bytes)) e k = let file : kind_of (map.get t (x ∷ xs)) ≡ kinds.File = ap kind_of e in absurd cc
    by (Some entries.Folder) e k = let folder : kind_of (map.get t (x ∷ xs)) ≡ kinds.Folder = ap kind_of e in absurd cc
    by (Some entries.Other) e k = let other : kind_of (map.get t (x ∷ xs)) ≡ kinds.Other = ap kind_of e in absurd cc

-- ---- what the moves change

module _ (places : PartPlaces) where
  pub places_start : (t : FileTree) → ChangesPlaces places t t
  places_start t = record { others = λ path at staged kept. refl }

  pub places_on : (t u w : FileTree) → ChangesPlaces places u w → ChangesPlaces places t u → ChangesPlaces places t w
  places_on t u w second first = record { others = λ path at staged kept. second.others path at staged kept ∙ first.others path at staged kept }

  pub places_read : (t : FileTree) (b d : Meaning) (failed : Bool) → OnlyRead b d failed → ChangesPlaces places t (reading b.disks.now) → ChangesPlaces places t (reading d.disks.now)
  places_read t b d failed read first = subst (ChangesPlaces places t) (sym (reads_same b d failed read)) first

  pub places_take : (t : FileTree) (b d : Meaning) → MayAdd b d (changes.Renamed places.target places.kept) → ChangesPlaces places t (reading b.disks.now)
      → ChangesPlaces places t (reading d.disks.now)
  places_take t b d may first = elim (reading_on b d (changes.Renamed places.target places.kept) may refl) [
    | inl same ↦ subst (ChangesPlaces places t) (sym same) first
    | inr made ↦ subst (ChangesPlaces places t) (sym made) (record {
      others = λ path at staged kept. renamed_elsewhere (reading b.disks.now) places.target places.kept path kept at ∙ first.others path at staged kept;
    })
  ]

  pub places_put : (t : FileTree) (b d : Meaning) → MayAdd b d (changes.Renamed places.staged places.target) → ChangesPlaces places t (reading b.disks.now)
      → ChangesPlaces places t (reading d.disks.now)
  places_put t b d may first = elim (reading_on b d (changes.Renamed places.staged places.target) may refl) [
    | inl same ↦ subst (ChangesPlaces places t) (sym same) first
    | inr made ↦ subst (ChangesPlaces places t) (sym made) (record {
      others = λ path at staged kept. renamed_elsewhere (reading b.disks.now) places.staged places.target path at staged ∙ first.others path at staged kept;
    })
  ]

-- ---- done

module _ (project : List (List ℕ)) (number : ℕ) (target : Target) (places : PartPlaces) (are : ArePlaces project number target places) where
  pub taken_is_done : (b d : Meaning) → Adds b d (changes.Renamed places.target places.kept) → map.get (reading d.disks.now) (target_path project target) ≡ None
  taken_is_done b d adds =
      ap (λ (u : FileTree). map.get u (target_path project target)) (reads_after b d (changes.Renamed places.target places.kept) adds)
      ∙ ap (λ from. map.get (changed (reading b.disks.now) (changes.Renamed from places.kept)) (target_path project target)) are.target_is
      ∙ ap (λ to. map.get (changed (reading b.disks.now) (changes.Renamed (target_path project target) to)) (target_path project target)) are.kept_is
      ∙ renamed_away (reading b.disks.now) (target_path project target) (kept_path project number) (target_path project target) []
      (ap (behind (kept_path project number)) (sym (append-nil (target_path project target)))
      ∙ work_not_part project (kept_path project number) (target_path project target ++ []) (kept_is_work project number) (target_is_part project [] target are.is_target))
      (behind_itself (target_path project target))

  pub put_is_done : (b d : Meaning) → Adds b d (changes.Renamed places.staged places.target) → map.get (reading d.disks.now) (staged_path project number) ≡ None
  put_is_done b d adds =
      ap (λ (u : FileTree). map.get u (staged_path project number)) (reads_after b d (changes.Renamed places.staged places.target) adds)
      ∙ ap (λ from. map.get (changed (reading b.disks.now) (changes.Renamed from places.target)) (staged_path project number)) are.staged_is
      ∙ ap (λ to. map.get (changed (reading b.disks.now) (changes.Renamed (staged_path project number) to)) (staged_path project number)) are.target_is
      ∙ renamed_away (reading b.disks.now) (staged_path project number) (target_path project target) (staged_path project number) []
      (target_not_work project (staged_path project number) target are.is_target (staged_is_work project number))
      (behind_itself (staged_path project number))

  -- what is absent is done
  pub absent_target : (b d : Meaning) (t : FileTree) (failed : Bool) (kind : Kind) → IsOnDisk b.disks.now t → OnlyRead b d failed → kind ≡ kind_at t places.target → kind ≡ kinds.Absent
      → map.get (reading d.disks.now) (target_path project target) ≡ None
  absent_target b d t failed kind on read is absent =
      ap (λ (u : FileTree). map.get u (target_path project target)) (reads_same b d failed read ∙ sym on.reads)
      ∙ ap (map.get t) (sym are.target_is) ∙ absent_is_none t places.target kind is absent

  pub absent_staged : (b d : Meaning) (t : FileTree) (failed : Bool) (kind : Kind) → IsOnDisk b.disks.now t → OnlyRead b d failed → kind ≡ kind_at t places.staged → kind ≡ kinds.Absent
      → map.get (reading d.disks.now) (staged_path project number) ≡ None
  absent_staged b d t failed kind on read is absent =
      ap (λ (u : FileTree). map.get u (staged_path project number)) (reads_same b d failed read ∙ sym on.reads)
      ∙ ap (map.get t) (sym are.staged_is) ∙ absent_is_none t places.staged kind is absent
