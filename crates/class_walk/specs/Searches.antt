-- What the code knows of a search, and what its steps answer.
use Rattle.std.specs.Prelude.{◌≡◌, ℕ, ◌-◌, List, [], ◌∷◌, ◌++◌, length, Bool, true, false, filter, map, nat_lt, is_some, if◌then◌else◌, Option, Some, None, Result, Ok, Err, ◌⊎◌}
use Rattle.std.specs.List.{flat_map}
use Rattle.tree_dev.specs.Trees.{FileTree, entry_at, names_in}
use Rattle.tree_dev.specs.Changes.{is_file, is_leaf}
use Rattle.tree_dev.specs.declared.entry.Entry.TheVariants as entries
use Rattle.tree_dev.specs.declared.limits.LimitKind.TheVariants as limits
use Rattle.tree_dev.specs.declared.limits.TheConstants.{FILE_BYTES}
use Rattle.class_walk.specs.Reached.{tails_in}
use Rattle.path_name.specs.Given.{◌>>=◌}
use Rattle.tree_dev.specs.declared.entry.Entry.{Entry}
use Rattle.class_walk.specs.Faults.{Refuses, Tells}
use Rattle.class_walk.specs.Walks.{Search, Source, Step, Walked, AreScansOf, each_walked, entry_walked, folder_listed, is_deep, is_reached}
use Rattle.class_walk.specs.declared.fault.WalkFault.{WalkFault}
use Rattle.class_walk.specs.declared.fault.WalkFault.TheVariants as faults
use Rattle.class_walk.specs.declared.job.Scanned.{Scanned}
use Rattle.class_walk.specs.declared.job.WalkJob.{WalkJob}
use Rattle.class_walk.specs.declared.search.Search as lent

abbrev pub search_of : lent.Search → Search
search_of search = record { number = search.number; job = search.job.now; exclude = search.exclude.now }

-- the entries that are walked below one of them
unfoldable pub reached_below : FileTree → WalkJob → List (List ℕ) → List (List (List ℕ))
reached_below t job tail = filter (is_reached job) (map (λ rest. tail ++ rest) (tails_in t (job.at ++ tail)))

-- an entry of a folder, and those that are walked below it, where it is walked
unfoldable pub child_reached : FileTree → WalkJob → List (List ℕ) → List ℕ → List (List (List ℕ))
child_reached t job tail name = if is_reached job (tail ++ name ∷ []) then (tail ++ name ∷ []) ∷ reached_below t job (tail ++ name ∷ []) else []

abbrev pub names_reached : FileTree → WalkJob → List (List ℕ) → List (List ℕ) → List (List (List ℕ))
names_reached t job tail names = flat_map (child_reached t job tail) names

-- something is there, and it is no file
pub record IsNoFile (t : FileTree) (at : List (List ℕ)) : Type 0 where
  pub there : is_some (entry_at t at) ≡ true
  pub no_file : is_file (entry_at t at) ≡ false

-- a file is there
abbrev pub IsFileAt : FileTree → List (List ℕ) → Type 0
IsFileAt t at = (bytes : List ℕ) × (entry_at t at ≡ Some (entries.File bytes))

-- what reading a file answers: its bytes, that none is there but something else, or why it isn't read
abbrev pub Reads : FileTree → List (List ℕ) → Result (Option (List ℕ)) WalkFault → Type 0
Reads t at (Ok (Some bytes)) = (entry_at t at ≡ Some (entries.File bytes)) × (nat_lt FILE_BYTES (length bytes) ≡ false)
Reads t at (Ok None) = IsNoFile t at
Reads t at (Err (faults.Limit kind)) = (kind ≡ limits.FileBytes at) × (bytes : List ℕ) × (entry_at t at ≡ Some (entries.File bytes)) × (nat_lt FILE_BYTES (length bytes) ≡ true)
Reads t at (Err (faults.Vanished path)) = entry_at t at ≡ None
Reads t at (Err (faults.ClassmapMissing path)) = ⊥
Reads t at (Err (faults.OtherEntry path)) = ⊥
Reads t at (Err faults.DeviceFault) = Unit {0}
Reads t at (Err faults.OutOfMemory) = Unit {0}

-- a file that was read is added
abbrev pub Adds : Search → List (List ℕ) → List ℕ → List Scanned → List Scanned → Type 0
Adds search tail bytes found after = (sources : List Source) → AreScansOf sources found → AreScansOf (sources ++ record { search = search; tail = tail; bytes = bytes } ∷ []) after

-- an entry that is not scanned is asked for its kind: whether it is a folder, or why it is not walked
abbrev pub Asks : List (List ℕ) → Option Entry → Result Bool WalkFault → Type 0
Asks at entry (Ok true) = entry ≡ Some entries.Folder
Asks at entry (Ok false) = (bytes : List ℕ) × (entry ≡ Some (entries.File bytes))
Asks at entry (Err (faults.OtherEntry path)) = (path ≡ at) × (entry ≡ Some entries.Other)
Asks at entry (Err (faults.Vanished path)) = entry ≡ None
Asks at entry (Err (faults.Limit kind)) = ⊥
Asks at entry (Err (faults.ClassmapMissing path)) = ⊥
Asks at entry (Err faults.DeviceFault) = Unit {0}
Asks at entry (Err faults.OutOfMemory) = Unit {0}

-- an entry lies too deep
abbrev pub RefusesDeep : List (List ℕ) → Option Entry → Result Bool WalkFault → Type 0
RefusesDeep at entry (Ok result) = ⊥
RefusesDeep at entry (Err (faults.OtherEntry path)) = (path ≡ at) × (entry ≡ Some entries.Other)
RefusesDeep at entry (Err (faults.Vanished path)) = entry ≡ None
RefusesDeep at entry (Err (faults.Limit kind)) = (kind ≡ limits.Depth at) × ((entry ≡ Some entries.Folder) ⊎ ((bytes : List ℕ) × (entry ≡ Some (entries.File bytes))))
RefusesDeep at entry (Err (faults.ClassmapMissing path)) = ⊥
RefusesDeep at entry (Err faults.DeviceFault) = Unit {0}
RefusesDeep at entry (Err faults.OutOfMemory) = Unit {0}

-- A file was walked.
pub record FileGoes (t : FileTree) (search : Search) (tail : List (List ℕ)) (found : List Scanned) (left : ℕ) (after : List Scanned) (rest : ℕ) : Type 0 where
  pub bytes : List ℕ
  pub file : entry_at t (search.job.at ++ tail) ≡ Some (entries.File bytes)
  pub goes : (walked : Walked) → Tells walked found left → (next : Walked) × (entry_walked t search tail walked ≡ Ok next) × Tells next after rest

-- No file is there, and nothing was found.
pub record IsOpen (t : FileTree) (search : Search) (tail : List (List ℕ)) (found : List Scanned) (left : ℕ) (after : List Scanned) (rest : ℕ) : Type 0 where
  pub no_file : IsNoFile t (search.job.at ++ tail)
  pub deep : is_deep tail ≡ false
  pub found_is : after ≡ found
  pub left_is : rest ≡ left

-- what looking at an entry answers: whether it is to be listed, or why it is not walked
abbrev pub Looks : FileTree → Search → List (List ℕ) → List Scanned → ℕ → List Scanned → ℕ → Result Bool WalkFault → Type 0
Looks t search tail found left after rest (Ok false) = FileGoes t search tail found left after rest
Looks t search tail found left after rest (Ok true) = IsOpen t search tail found left after rest
Looks t search tail found left after rest (Err fault) = (walked : Walked) → Refuses fault (entry_walked t search tail walked)

-- A folder was listed, and its names were counted.
pub record IsListed (t : FileTree) (at names : List (List ℕ)) (before after : ℕ) : Type 0 where
  pub folder : entry_at t at ≡ Some entries.Folder
  pub names_are : names ≡ names_in t at
  pub few : nat_lt before (length (names_in t at)) ≡ false
  pub counted : after ≡ before - length (names_in t at)

-- It has more names than may still be listed.
pub record IsTooLarge (t : FileTree) (at : List (List ℕ)) (before : ℕ) : Type 0 where
  pub folder : entry_at t at ≡ Some entries.Folder
  pub many : nat_lt before (length (names_in t at)) ≡ true

-- what listing a path answers: its names, or why they are not listed
abbrev pub Lists : FileTree → List (List ℕ) → ℕ → ℕ → Result (List (List ℕ)) WalkFault → Type 0
Lists t at before after (Ok names) = IsListed t at names before after
Lists t at before after (Err (faults.OtherEntry path)) = (path ≡ at) × (is_leaf (entry_at t at) ≡ true)
Lists t at before after (Err (faults.Limit kind)) = (kind ≡ limits.Entries) × IsTooLarge t at before
Lists t at before after (Err (faults.Vanished path)) = entry_at t at ≡ None
Lists t at before after (Err (faults.ClassmapMissing path)) = ⊥
Lists t at before after (Err faults.DeviceFault) = Unit {0}
Lists t at before after (Err faults.OutOfMemory) = Unit {0}

-- what lies below a folder is walked
abbrev pub folder_goes_by : FileTree → Search → List (List ℕ) → Option Entry → Step
folder_goes_by t search tail None walked = Ok walked
folder_goes_by t search tail (Some (entries.File bytes)) walked = Ok walked
folder_goes_by t search tail (Some entries.Folder) walked = folder_listed t (search.job.at ++ tail) walked >>= λ next. each_walked t search (reached_below t search.job tail) next
folder_goes_by t search tail (Some entries.Other) walked = Err (faults.OtherEntry (search.job.at ++ tail))

unfoldable pub folder_goes : FileTree → Search → List (List ℕ) → Step
folder_goes t search tail walked = folder_goes_by t search tail (entry_at t (search.job.at ++ tail)) walked
