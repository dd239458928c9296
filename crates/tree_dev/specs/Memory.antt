-- What the devices of memory mean, and what their calls leave.
use Rattle.std.specs.Prelude.{◌≡◌, ℕ, zero, suc, ◌-◌, Bool, true, false, ◌||◌, ◌&&◌, List, [], ◌∷◌, ◌++◌, length, take, drop, Option, Some, None, nat_le, if◌then◌else◌, refl}
use Rattle.std.specs.List.{list_any}
use Rattle.std.specs.Ordering.{nat_cmp}
use Rattle.std.specs.FinMap as map
use Rattle.std.specs.FinSet as set
use Rattle.std.specs.Coded.{Coded, code_by, coded×, coded_ℕ, coded_list, coded_option}
use Rattle.tree_dev.specs.Trees.{FileTree, is_tree}
use Rattle.tree_dev.specs.Changes.{has_place}
use Rattle.tree_dev.specs.Disk.{Disk, Disks, made, reading, with_change, with_base, settled}
use Rattle.tree_dev.specs.Device.{Meaning, next}
use Rattle.tree_dev.specs.declared.change.Change.{Change}
use Rattle.tree_dev.specs.declared.change.Change.TheVariants as changes
use Rattle.tree_dev.specs.contracts.change.Change as change
use Rattle.tree_dev.specs.Sinks.{Taken}
use Rattle.tree_dev.specs.declared.entry.Entry.{Entry}
use Rattle.tree_dev.specs.declared.entry.Entry.TheVariants as entries
use Rattle.tree_dev.specs.declared.did.Did.{Did}
use Rattle.tree_dev.specs.declared.did.Did.TheVariants as dids
use Rattle.tree_dev.specs.contracts.entry.Entry as entry

-- A tree in memory: its disk now and at each earlier moment, the numbers of the calls that are to fail and of the
-- call from which on all are to fail, how many calls came, how many of them were writes, how many found no
-- memory, and how many failed.
pub record Memory : Type 0 where
  pub disks : Disks
  pub failing : set.FinSet nat_cmp
  pub stopped : Option ℕ
  pub calls : ℕ
  pub writes : ℕ
  pub short : ℕ
  pub faults : ℕ

-- the entries, as they read
abbrev pub files_of : Memory → FileTree
files_of m = reading m.disks.now

-- each first part of the changes makes a tree
abbrev pub are_trees : FileTree → List Change → Bool
are_trees base [] = is_tree base
are_trees base (latest ∷ earlier) = is_tree (made base (latest ∷ earlier)) && are_trees base earlier

-- every tree that a crash leaves is one
unfoldable pub is_sound : Disk → Bool
is_sound d = are_trees d.base d.pending

-- It tells its entries where they are a tree, whatever a crash leaves.
abbrev pub told_by : Memory → Meaning
told_by m = record { told = if is_sound m.disks.now then Some (files_of m) else None; faults = m.faults; writes = m.writes; disks = m.disks }

abbrev pub is_from : Option ℕ → ℕ → Bool
is_from None number = false
is_from (Some first) number = nat_le first number

-- whether the next call is to fail
abbrev pub fails_next : Memory → Bool
fails_next m = set.contains m.failing (next m.calls) || is_from m.stopped (next m.calls)

-- after a call that was to fail
abbrev pub after_failure : Memory → Memory
after_failure m = record m { calls = next m.calls; faults = next m.faults }

-- after a call that found no memory
abbrev pub after_want_of_memory : Memory → Memory
after_want_of_memory m = record m { calls = next m.calls; short = next m.short; faults = next m.faults }

-- after a call that failed: it was to, or found no memory
abbrev pub after_fault : Memory → Memory
after_fault m = if fails_next m then after_failure m else after_want_of_memory m

-- after a call that read
abbrev pub after_call : Memory → Memory
after_call m = if fails_next m then after_failure m else record m { calls = next m.calls }

-- the disk after a change, which is made where it has a place
abbrev pub after_disk_change : Disks → Change → Disks
after_disk_change disks change = if has_place (reading disks.now) change then with_change disks change else disks

-- after a call that makes a change where it has a place
abbrev pub after_change : Memory → Change → Memory
after_change m change = record m { calls = next m.calls; disks = after_disk_change m.disks change }

-- a change as a crash leaves it that puts these bytes into each file that was written, or leaves all bytes whole
abbrev pub torn_change : Option (List ℕ) → Change → Change
torn_change None change = change
torn_change (Some torn) (changes.Written at bytes) = changes.Written at torn
torn_change (Some torn) (changes.FolderMade at) = changes.FolderMade at
torn_change (Some torn) (changes.Renamed from to) = changes.Renamed from to
torn_change (Some torn) (changes.FileRemoved at) = changes.FileRemoved at
torn_change (Some torn) (changes.FolderRemoved at) = changes.FolderRemoved at

unfoldable pub torn_changes : Option (List ℕ) → List Change → List Change
torn_changes torn [] = []
torn_changes torn (latest ∷ earlier) = torn_change torn latest ∷ torn_changes torn earlier

-- The image of a disk that the first so many of its pending changes make, with these bytes, if any are given, in each
-- file that one of them wrote, wherever a later one of them took it.
unfoldable pub crashed : Disk → ℕ → Option (List ℕ) → FileTree
crashed d applied torn = made d.base (torn_changes torn (drop (length d.pending - applied) d.pending))

-- the disk after a crash: this image is safe, and nothing is pending
abbrev pub after_disk_crash : Disks → ℕ → Option (List ℕ) → Disks
after_disk_crash disks applied torn = with_base disks (crashed disks.now applied torn)

-- after a crash no call is to fail
abbrev pub after_crash : Memory → ℕ → Option (List ℕ) → Memory
after_crash m applied torn = record m { disks = after_disk_crash m.disks applied torn; failing = set.empty; stopped = None }

-- after a barrier
abbrev pub after_barrier : Memory → Memory
after_barrier m = record m { calls = next m.calls; disks = settled m.disks }

-- with one more call of write
abbrev pub one_write : Memory → Memory
one_write m = record m { writes = next m.writes }

-- the first n segments, the first n - 1, and so on, without the root
abbrev pub prefixes : ℕ → List (List ℕ) → List (List (List ℕ))
prefixes zero path = []
prefixes (suc n) path = take (suc n) path ∷ prefixes n path

-- the paths above a path, without the root
abbrev pub above : List (List ℕ) → List (List (List ℕ))
above path = prefixes (length path - 1) path

-- no folder can be made or be there
abbrev pub blocks : Option Entry → Bool
blocks None = false
blocks (Some (entries.File bytes)) = true
blocks (Some entries.Folder) = false
blocks (Some entries.Other) = true

-- a folder that is there is not replaced by an entry that is none
abbrev pub hides : Option Entry → Entry → Bool
hides (Some entries.Folder) (entries.File bytes) = true
hides (Some entries.Folder) entries.Other = true
hides (Some entries.Folder) entries.Folder = false
hides (Some (entries.File bytes)) new = false
hides (Some entries.Other) new = false
hides None new = false

-- An entry can't be put at the root, below an entry that is no folder, and at a folder where it is none.
unfoldable pub is_misplaced : FileTree → List (List ℕ) → Entry → Bool
is_misplaced t [] new = true
is_misplaced t (segment ∷ rest) new = list_any (λ folder. blocks (map.get t folder)) (above (segment ∷ rest)) || hides (map.get t (segment ∷ rest)) new

-- a folder where nothing is there
abbrev pub or_folder : FileTree → List (List ℕ) → Option Entry → FileTree
or_folder t path None = map.insert t path entries.Folder
or_folder t path (Some present) = t

abbrev pub with_folders : FileTree → List (List (List ℕ)) → FileTree
with_folders t [] = t
with_folders t (path ∷ paths) = with_folders (or_folder t path (map.get t path)) paths

-- what a put leaves at another path: a folder where nothing was there, if it is above
abbrev pub filled : Option Entry → Bool → Option Entry
filled (Some present) is_above = Some present
filled None true = Some entries.Folder
filled None false = None

-- the tree with an entry at a path, and with folders where nothing was there above it
unfoldable pub put_in : FileTree → List (List ℕ) → Entry → FileTree
put_in t path new = map.insert (with_folders t (above path)) path new

abbrev pub did_put : FileTree → List (List ℕ) → Entry → Did
did_put t path new = if is_misplaced t path new then dids.Misplaced else dids.Done

-- the disk after a put: the tree is safe, and what is misplaced changes nothing
abbrev pub after_disk_put : Disks → List (List ℕ) → Entry → Disks
after_disk_put disks path new = if is_misplaced (reading disks.now) path new then disks else with_base disks (put_in (reading disks.now) path new)

abbrev pub after_put : Memory → List (List ℕ) → Entry → Memory
after_put m path new = record m { disks = after_disk_put m.disks path new }

-- the root alone
abbrev pub new_disks : Disks
new_disks = record { now = record { base = map.empty; pending = [] }; past = [] }

-- the entries are what the record reads, and a crash leaves trees
pub record IsKept (files : FileTree) (disks : Disks) : Type 0 where
  pub reads : files ≡ reading disks.now
  pub sound : is_sound disks.now ≡ true

-- A sink in memory: its bytes, from which put on it fails, how many puts came, how many found no memory,
-- and how many failed.
pub record SinkMemory : Type 0 where
  pub bytes : List ℕ
  pub fail_from : Option ℕ
  pub puts : ℕ
  pub short : ℕ
  pub faults : ℕ

-- It tells its bytes.
abbrev pub taken_by : SinkMemory → Taken
taken_by m = record { bytes = Some m.bytes; faults = m.faults }

-- whether the next put is to fail
abbrev pub refuses_next : SinkMemory → Bool
refuses_next m = is_from m.fail_from (next m.puts)

-- after a put that took its piece
abbrev pub with_piece : SinkMemory → List ℕ → SinkMemory
with_piece m piece = record { bytes = m.bytes ++ piece; fail_from = m.fail_from; puts = next m.puts; short = m.short; faults = m.faults }

-- after a put that was to fail
abbrev pub after_refusal : SinkMemory → SinkMemory
after_refusal m = record { bytes = m.bytes; fail_from = m.fail_from; puts = next m.puts; short = m.short; faults = next m.faults }

-- after a put that found no memory
abbrev pub after_shortage : SinkMemory → SinkMemory
after_shortage m = record { bytes = m.bytes; fail_from = m.fail_from; puts = next m.puts; short = next m.short; faults = next m.faults }

-- how they are stored
abbrev pub tree_code : Coded FileTree
tree_code = map.code (coded_list (coded_list coded_ℕ)) entry.the_row.coded

abbrev pub disk_code : Coded Disk
disk_code = code_by (FileTree × List Change) (coded× tree_code (coded_list change.the_row.coded)) (λ d. (d.base, d.pending)) (λ p. record { base = p.0; pending = p.1 }) (λ _. refl)

abbrev pub disks_code : Coded Disks
disks_code = code_by (Disk × List Disk) (coded× disk_code (coded_list disk_code)) (λ d. (d.now, d.past)) (λ p. record { now = p.0; past = p.1 }) (λ _. refl)

abbrev pub memory_code : Coded Memory
memory_code =
    code_by (Disks × (set.FinSet nat_cmp × (Option ℕ × (ℕ × (ℕ × (ℕ × ℕ))))))
    (coded× disks_code (coded× (set.code coded_ℕ) (coded× (coded_option coded_ℕ) (coded× coded_ℕ (coded× coded_ℕ (coded× coded_ℕ coded_ℕ))))))
    (λ m. (m.disks, (m.failing, (m.stopped, (m.calls, (m.writes, (m.short, m.faults)))))))
    (λ p. record { disks = p.0; failing = p.1.0; stopped = p.1.1.0; calls = p.1.1.1.0; writes = p.1.1.1.1.0; short = p.1.1.1.1.1.0; faults = p.1.1.1.1.1.1 })
    (λ _. refl)

abbrev pub sink_code : Coded SinkMemory
sink_code =
    code_by (List ℕ × (Option ℕ × (ℕ × (ℕ × ℕ)))) (coded× (coded_list coded_ℕ) (coded× (coded_option coded_ℕ) (coded× coded_ℕ (coded× coded_ℕ coded_ℕ))))
    (λ m. (m.bytes, (m.fail_from, (m.puts, (m.short, m.faults)))))
    (λ p. record { bytes = p.0; fail_from = p.1.0; puts = p.1.1.0; short = p.1.1.1.0; faults = p.1.1.1.1 }) (λ _. refl)
