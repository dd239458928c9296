-- Where no write is pending, a crash leaves a tree that was read.
use Rattle.std.proofs.Common.{◌≡◌, ℕ, zero, suc, Bool, true, false, List, [], ◌∷◌, drop, refl, sym, ap, subst, ◌∙◌, ◌⊎◌, inl, inr}
use Rattle.std.specs.Prelude.{not}
use Rattle.std.specs.List.{list_all}
use Rattle.std.proofs.lemmas.Bool.{not-true}
use Rattle.tree_dev.specs.Trees.{FileTree}
use Rattle.tree_dev.specs.Changes.{IsTorn, changed}
use Rattle.tree_dev.specs.Disk.{Disk, Disks, IsImage, IsLeftByAll, made, reading, settled, with_change}
use Rattle.tree_dev.specs.Device.{MayAdd, MaySettle, Meaning, OnlyRead}
use Rattle.tree_dev.specs.Steady.{IsWhole, Through, is_write}
use Rattle.tree_dev.specs.Told.{both}
use Rattle.tree_dev.specs.declared.change.Change.{Change}
use Rattle.tree_dev.specs.declared.change.Change.TheVariants as changes
use Rattle.tree_dev.proofs.Images.{one_image_settled, reading_is_image}
use Rattle.tree_dev.proofs.Stretches.{one_moment, same_moment, through_ends, through_from, through_on}

abbrev are_whole : List Change → Bool
are_whole pending = list_all (λ change. not (is_write change)) pending

-- what is no write comes out whole
torn_whole : (change torn : Change) → is_write change ≡ false → IsTorn change torn → torn ≡ change
torn_whole (changes.Written at bytes) torn quiet is = absurd cc
torn_whole (changes.FolderMade at) torn quiet is = is
torn_whole (changes.Renamed from to) torn quiet is = is
torn_whole (changes.FileRemoved at) torn quiet is = is
torn_whole (changes.FolderRemoved at) torn quiet is = is

left_as_made : (base left : FileTree) (pending : List Change) → are_whole pending ≡ true → IsLeftByAll base pending left → left ≡ made base pending
unfolding made IsLeftByAll
left_as_made base left [] whole applied = applied
left_as_made base left (latest ∷ earlier) whole applied =
    let parts = both (not (is_write latest)) (are_whole earlier) whole in
    let leaves = applied.2 in
    leaves.after ∙ ap (changed applied.0) (torn_whole latest leaves.torn (not-true (is_write latest) parts.0) leaves.is_torn)
    ∙ ap (λ (t : FileTree). changed t latest) (left_as_made base applied.0 earlier parts.1 applied.1)

fewer_whole : (lost : ℕ) (pending : List Change) → are_whole pending ≡ true → are_whole (drop lost pending) ≡ true
fewer_whole zero pending whole = whole
fewer_whole (suc lost) [] whole = refl
fewer_whole (suc lost) (latest ∷ earlier) whole = fewer_whole lost earlier (both (not (is_write latest)) (are_whole earlier) whole).1

pub image_was_read : (d : Disk) (left : FileTree) → IsWhole d → IsImage d left → (lost : ℕ) × (left ≡ made d.base (drop lost d.pending))
unfolding IsWhole
image_was_read d left whole image = (image.lost, left_as_made d.base left (drop image.lost d.pending) (fewer_whole image.lost d.pending whole) image.applied)

pub settled_is_whole : (disks : Disks) → IsWhole (settled disks).now
unfolding IsWhole
settled_is_whole disks = refl

change_is_whole : (disks : Disks) (change : Change) → is_write change ≡ false → IsWhole disks.now → IsWhole (with_change disks change).now
unfolding IsWhole
change_is_whole disks change quiet whole = rw quiet whole

pub whole_on : (b d : Meaning) (change : Change) → MayAdd b d change → is_write change ≡ false → IsWhole b.disks.now → IsWhole d.disks.now
whole_on b d change (inl stays) quiet whole = subst (λ (disks : Disks). IsWhole disks.now) (sym stays.disks) whole
whole_on b d change (inr adds) quiet whole =
    subst (λ (disks : Disks). IsWhole disks.now) (sym adds.adds.disks)
    (change_is_whole b.disks adds.torn (ap is_write (torn_whole change adds.torn quiet adds.is_torn) ∙ quiet) whole)

pub whole_then_read : (b d : Meaning) (failed : Bool) → OnlyRead b d failed → IsWhole b.disks.now → IsWhole d.disks.now
whole_then_read b d failed read whole = subst (λ (disks : Disks). IsWhole disks.now) (sym read.disks) whole

pub whole_then_barrier : (b d : Meaning) → MaySettle b d → IsWhole b.disks.now → IsWhole d.disks.now
whole_then_barrier b d (inl stays) whole = subst (λ (disks : Disks). IsWhole disks.now) (sym stays.disks) whole
whole_then_barrier b d (inr settles) whole = subst (λ (disks : Disks). IsWhole disks.now) (sym settles.disks) (settled_is_whole b.disks)

pub ruleset wholly = (whole_then_read, whole_then_barrier, whole_on)

-- what reads after a change that writes nothing: as before it, or with the change made
pub reading_on : (b d : Meaning) (change : Change) → MayAdd b d change → is_write change ≡ false
    → (reading d.disks.now ≡ reading b.disks.now) ⊎ (reading d.disks.now ≡ changed (reading b.disks.now) change)
unfolding made
reading_on b d change (inl stays) quiet = inl (ap (λ (disks : Disks). reading disks.now) stays.disks)
reading_on b d change (inr adds) quiet =
    inr (ap (λ (disks : Disks). reading disks.now) adds.adds.disks ∙ ap (changed (reading b.disks.now)) (torn_whole change adds.torn quiet adds.is_torn))

-- ---- stretches

module _ (P : FileTree → Type 0) where
  pub through_then_read : (a b d : Meaning) (failed : Bool) → OnlyRead b d failed → Through a b P → Through a d P
  through_then_read a b d failed read run = through_on P a b d run (same_moment P b d read.faults read.disks (through_ends P a b run))

  pub through_then_barrier : (a b d : Meaning) → MaySettle b d → Through a b P → Through a d P
  through_then_barrier a b d (inl stays) run = through_on P a b d run (same_moment P b d stays.faults stays.disks (through_ends P a b run))
  through_then_barrier a b d (inr settles) run =
      through_on P a b d run (one_moment P b d settles.faults (ap (λ (disks : Disks). disks.past) settles.disks) (through_ends P a b run)
      (λ left image. subst P (sym (one_image_settled b.disks left (subst (λ (disks : Disks). IsImage disks.now left) settles.disks image)))
      (through_ends P a b run (reading b.disks.now) (reading_is_image b.disks.now))))

  -- a change that writes nothing: the one new image is the tree as it reads then
  pub through_then_change : (a b d : Meaning) (change : Change) → MayAdd b d change → is_write change ≡ false → IsWhole b.disks.now → P (reading d.disks.now) → Through a b P → Through a d P
  unfolding IsWhole
  through_then_change a b d change (inl stays) quiet whole now run = through_on P a b d run (same_moment P b d stays.faults stays.disks (through_ends P a b run))
  through_then_change a b d change (inr adds) quiet whole now run =
      through_on P a b d run (one_moment P b d adds.adds.faults (ap (λ (disks : Disks). disks.past) adds.adds.disks) (through_ends P a b run)
      (λ left image. new_image left (subst (λ (disks : Disks). IsImage disks.now left) adds.adds.disks image)))
    where
      reads : (left : FileTree) → left ≡ reading (with_change b.disks adds.torn).now → P left
      reads left is = subst P (sym (is ∙ ap (λ (disks : Disks). reading disks.now) (sym adds.adds.disks))) now

      still : adds.torn ≡ change
      still = torn_whole change adds.torn quiet adds.is_torn

      new_image : (left : FileTree) → IsImage (with_change b.disks adds.torn).now left → P left
      new_image left image = by_lost image.lost image.applied
        where
          by_lost : (lost : ℕ) → IsLeftByAll b.disks.now.base (drop lost (adds.torn ∷ b.disks.now.pending)) left → P left
          by_lost zero applied = reads left
              (left_as_made b.disks.now.base left (adds.torn ∷ b.disks.now.pending) (change_whole (ap is_write still ∙ quiet)) applied)
            where
              change_whole : is_write adds.torn ≡ false → are_whole (adds.torn ∷ b.disks.now.pending) ≡ true
              change_whole e = change_is_whole b.disks adds.torn e whole
          by_lost (suc lost) applied = through_ends P a b run left (record { lost = lost; applied = applied })

  -- the same where the change keeps what the tree had as it read before
  pub through_then_kept : (a b d : Meaning) (change : Change) → MayAdd b d change → is_write change ≡ false → IsWhole b.disks.now
      → (P (reading b.disks.now) → P (changed (reading b.disks.now) change)) → Through a b P → Through a d P
  through_then_kept a b d change adds quiet whole keeps run =
      through_then_change a b d change adds quiet whole (now_has (reading_on b d change adds quiet)) run
    where
      before_has : P (reading b.disks.now)
      before_has = through_ends P a b run (reading b.disks.now) (reading_is_image b.disks.now)

      now_has : (reading d.disks.now ≡ reading b.disks.now) ⊎ (reading d.disks.now ≡ changed (reading b.disks.now) change) → P (reading d.disks.now)
      now_has (inl same) = subst P (sym same) before_has
      now_has (inr made) = subst P (sym made) (keeps before_has)

pub ruleset throughout = (through_from, through_then_read, through_then_barrier, through_then_kept)
