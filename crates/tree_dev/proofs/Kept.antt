-- The entries of a tree in memory and its record.
use Rattle.std.proofs.Common.{◌≡◌, ℕ, zero, ◌<◌, ◌^◌, true, false, List, drop, Option, Result, Ok, Err, OnOk, OnErr, refl, sym, ap, ◌∙◌}
use Rattle.std.specs.FinMap.{empty, len}
use Rattle.path_name.specs.Paths.{IsPath}
use Rattle.tree_dev.specs.Trees.{FileTree, IsTree, is_tree}
use Rattle.tree_dev.specs.Changes.{changed, has_place, target}
use Rattle.tree_dev.specs.Disk.{Disk, Disks, IsOnDisk, made, reading, settled, with_base, with_change}
use Rattle.tree_dev.specs.Memory.{IsKept, after_disk_crash, crashed, is_misplaced, is_sound, new_disks, put_in}
use Rattle.tree_dev.specs.declared.entry.Entry.{Entry}
use Rattle.tree_dev.specs.Told.{part_is_tree, tree_from_test}
use Rattle.tree_dev.specs.declared.change.Change.{Change}
use Rattle.tree_dev.proofs.TreeKept.{empty_is_tree, put_keeps, test_from_tree}
use Rattle.tree_dev.proofs.TornChanges.{crashed_is_tree}
use Rattle.tree_dev.proofs.TreesAfter.{change_keeps}

reading_is_tree : (d : Disk) → is_sound d ≡ true → is_tree (reading d) ≡ true
unfolding is_sound
reading_is_tree d e = part_is_tree d.base d.pending zero e

pub sound_reading : (d : Disk) → is_sound d ≡ true → IsTree (reading d)
sound_reading d e = tree_from_test (reading d) (reading_is_tree d e)

pub kept_tree : (files : FileTree) (disks : Disks) → IsKept files disks → IsTree files
kept_tree files disks kept = tree_from_test files (ap is_tree kept.reads ∙ reading_is_tree disks.now kept.sound)

pub kept_new : IsKept empty new_disks
unfolding made is_sound
kept_new = record { reads = refl; sound = empty_is_tree }

pub kept_base : (files base : FileTree) (disks : Disks) → files ≡ base → is_tree base ≡ true → IsKept files (with_base disks base)
unfolding made is_sound
kept_base files base disks same tree = record { reads = same; sound = tree }

pub kept_settled : (files : FileTree) (disks : Disks) → IsKept files disks → IsKept files (settled disks)
kept_settled files disks kept = kept_base files (reading disks.now) disks kept.reads (reading_is_tree disks.now kept.sound)

pub kept_after_barrier : {X E : Type 0} (r : Result X E) (files : FileTree) (disks after : Disks) → OnOk r (after ≡ settled disks) → OnErr r (after ≡ disks) → IsKept files disks → IsKept files after
kept_after_barrier (Ok x) files disks after ok err kept = rw ok (kept_settled files disks kept)
kept_after_barrier (Err e) files disks after ok err kept = rw err kept

pub kept_change : (files after : FileTree) (disks : Disks) (change : Change) → IsKept files disks → has_place (reading disks.now) change ≡ true → IsPath (target change)
    → after ≡ changed files change → len after < 2 ^ 32 → IsKept after (with_change disks change)
unfolding made is_sound
kept_change files after disks change kept place is_path same few =
    let there : has_place files change ≡ true = ap (λ t. has_place t change) kept.reads ∙ place in
    let tree = change_keeps files change (kept_tree files disks kept) is_path there (rw same at few) in
    let read : changed files change ≡ changed (reading disks.now) change = ap (λ t. changed t change) kept.reads in
    let one : is_tree (changed (reading disks.now) change) ≡ true = ap is_tree (sym read) ∙ test_from_tree (changed files change) tree in
    record { reads = same ∙ read; sound = rw one kept.sound }

pub kept_put : (files after : FileTree) (disks : Disks) (at : List (List ℕ)) (entry : Entry) → IsKept files disks → IsPath at → is_misplaced files at entry ≡ false
    → after ≡ put_in files at entry → len after < 2 ^ 32 → IsKept after (with_base disks (put_in (reading disks.now) at entry))
kept_put files after disks at entry kept is_path placed same few =
    let read : put_in files at entry ≡ put_in (reading disks.now) at entry = ap (λ t. put_in t at entry) kept.reads in
    let tree = put_keeps files at entry (kept_tree files disks kept) is_path placed (rw same at few) in
    kept_base after (put_in (reading disks.now) at entry) disks (same ∙ read) (ap is_tree (sym read) ∙ test_from_tree (put_in files at entry) tree)

-- what a crash leaves is a tree
sound_on_disk : (d : Disk) → is_sound d ≡ true → IsOnDisk d (reading d)
unfolding is_sound
sound_on_disk d e = record { reads = refl; trees = λ lost. tree_from_test (made d.base (drop lost d.pending)) (part_is_tree d.base d.pending lost e) }

pub kept_crash : (files after : FileTree) (disks : Disks) (applied : ℕ) (torn : Option (List ℕ)) → IsKept files disks → after ≡ crashed disks.now applied torn
    → IsKept after (after_disk_crash disks applied torn)
kept_crash files after disks applied torn kept same =
    let tree = crashed_is_tree disks.now (reading disks.now) applied torn (sound_on_disk disks.now kept.sound) in
    kept_base after (crashed disks.now applied torn) disks same (test_from_tree (crashed disks.now applied torn) tree)
