-- What a crash leaves that puts the same bytes into each file that was written, or leaves all bytes whole.
use Rattle.std.proofs.Common.{◌≡◌, ℕ, ◌-◌, List, [], ◌∷◌, length, drop, Option, Some, None, refl, ap, ◌∙◌, arith}
use Rattle.tree_dev.specs.Trees.{FileTree, IsTree}
use Rattle.tree_dev.specs.Changes.{IsTorn}
use Rattle.tree_dev.specs.Disk.{Disk, Disks, IsImage, IsLeftByAll, IsOnDisk, made, reading}
use Rattle.tree_dev.specs.Memory.{after_disk_crash, crashed, torn_change, torn_changes}
use Rattle.tree_dev.specs.declared.change.Change.{Change}
use Rattle.tree_dev.specs.declared.change.Change.TheVariants as changes
use Rattle.tree_dev.proofs.Images.{torn_itself}
use Rattle.tree_dev.proofs.Unwritten.{image_is_tree}

pub torn_is : (torn : Option (List ℕ)) (change : Change) → IsTorn change (torn_change torn change)
torn_is None change = torn_itself change
torn_is (Some torn) (changes.Written at bytes) = (torn, refl)
torn_is (Some torn) (changes.FolderMade at) = refl
torn_is (Some torn) (changes.Renamed from to) = refl
torn_is (Some torn) (changes.FileRemoved at) = refl
torn_is (Some torn) (changes.FolderRemoved at) = refl

pub left_torn : (base : FileTree) (torn : Option (List ℕ)) (pending : List Change) → IsLeftByAll base pending (made base (torn_changes torn pending))
unfolding made torn_changes IsLeftByAll
left_torn base torn [] = refl
left_torn base torn (latest ∷ earlier) = (made base (torn_changes torn earlier), left_torn base torn earlier, record { torn = torn_change torn latest; is_torn = torn_is torn latest; after = refl })

-- it is an image
pub crashed_is_image : (d : Disk) (applied : ℕ) (torn : Option (List ℕ)) → IsImage d (crashed d applied torn)
unfolding crashed
crashed_is_image d applied torn = record { lost = length d.pending - applied; applied = left_torn d.base torn (drop (length d.pending - applied) d.pending) }

pub crashed_is_tree : (d : Disk) (t : FileTree) (applied : ℕ) (torn : Option (List ℕ)) → IsOnDisk d t → IsTree (crashed d applied torn)
crashed_is_tree d t applied torn on = image_is_tree d t (crashed d applied torn) on (crashed_is_image d applied torn)

-- with whole bytes each change is as it was
pub whole_changes : (pending : List Change) → torn_changes None pending ≡ pending
unfolding torn_changes
whole_changes [] = refl
whole_changes (latest ∷ earlier) = ap (λ l. latest ∷ l) (whole_changes earlier)

-- with all changes and whole bytes it is the tree as it read
pub crashed_whole : (d : Disk) → crashed d (length d.pending) None ≡ reading d
unfolding crashed
crashed_whole d =
    let none : length d.pending - length d.pending ≡ 0 = omega arith in
    ap (λ n. made d.base (torn_changes None (drop n d.pending))) none ∙ ap (made d.base) (whole_changes d.pending)

pub crash_reads_image : (disks : Disks) (applied : ℕ) (torn : Option (List ℕ)) → IsImage disks.now (reading (after_disk_crash disks applied torn).now)
unfolding made
crash_reads_image disks applied torn = crashed_is_image disks.now applied torn
