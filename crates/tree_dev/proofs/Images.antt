-- What a crash may leave.
use Rattle.std.proofs.Common.{◌≡◌, ℕ, zero, suc, List, [], ◌∷◌, drop, ◌⊎◌, inl, inr, refl, subst}
use Rattle.tree_dev.specs.Trees.{FileTree}
use Rattle.tree_dev.specs.Changes.{IsTorn}
use Rattle.tree_dev.specs.Disk.{Disk, Disks, IsImage, IsLeftByAll, Leaves, made, reading, settled, with_change}
use Rattle.tree_dev.specs.declared.change.Change.{Change}
use Rattle.tree_dev.specs.declared.change.Change.TheVariants as changes

-- a change may come out whole
pub torn_itself : (change : Change) → IsTorn change change
torn_itself (changes.Written at bytes) = (bytes, refl)
torn_itself (changes.FolderMade at) = refl
torn_itself (changes.Renamed from to) = refl
torn_itself (changes.FileRemoved at) = refl
torn_itself (changes.FolderRemoved at) = refl

pub left_whole : (base : FileTree) (pending : List Change) → IsLeftByAll base pending (made base pending)
unfolding made IsLeftByAll
left_whole base [] = refl
left_whole base (latest ∷ earlier) = (made base earlier, left_whole base earlier, record { torn = latest; is_torn = torn_itself latest; after = refl })

nothing_dropped : (lost : ℕ) (pending : List Change) → pending ≡ [] → drop lost pending ≡ []
nothing_dropped zero pending none = none
nothing_dropped (suc lost) [] none = refl
nothing_dropped (suc lost) (latest ∷ earlier) none = absurd cc

pub reading_is_image : (d : Disk) → IsImage d (reading d)
reading_is_image d = record { lost = 0; applied = left_whole d.base d.pending }

pub image_of_fewer : (disks : Disks) (change : Change) (left : FileTree) → IsImage disks.now left → IsImage (with_change disks change).now left
image_of_fewer disks change left image = record { lost = suc image.lost; applied = image.applied }

pub only_base : (base left : FileTree) (pending : List Change) → pending ≡ [] → IsLeftByAll base pending left → left ≡ base
unfolding IsLeftByAll
only_base base left pending none applied = subst (λ (cs : List Change). IsLeftByAll base cs left) none applied

pub one_image_settled : (disks : Disks) (left : FileTree) → IsImage (settled disks).now left → left ≡ reading disks.now
one_image_settled disks left image = only_base (reading disks.now) left _ (nothing_dropped image.lost (settled disks).now.pending refl) image.applied

-- With one more change pending a crash leaves what it left before, or that with the change on top.
pub left_with_change : (disks : Disks) (change : Change) (left : FileTree) → IsImage (with_change disks change).now left
    → IsImage disks.now left ⊎ ((before : FileTree) × IsImage disks.now before × Leaves before change left)
unfolding IsLeftByAll
left_with_change disks change left image = by_lost image.lost image.applied
  where
    by_lost : (lost : ℕ) → IsLeftByAll disks.now.base (drop lost (change ∷ disks.now.pending)) left
        → IsImage disks.now left ⊎ ((before : FileTree) × IsImage disks.now before × Leaves before change left)
    by_lost zero applied = inr (applied.0, record { lost = 0; applied = applied.1 }, applied.2)
    by_lost (suc lost) applied = inl (record { lost = lost; applied = applied })
