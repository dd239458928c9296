-- Which folders the url of a path repository names (Composer's documentation, "Repositories", "Path"; PHP manual, glob).
-- A url is a list of segments, seen from a project or from a folder above it. Folders are named by their segments from
-- where the url begins.
use Rattle.std.specs.Prelude.{ℕ, ◌-◌, List, [], ◌∷◌, ◌++◌, length, take, drop, min, map, filter, Bool, false, not, ◌||◌, ◌&&◌, ◌==◌, nat_lt, if◌then◌else◌, Result, Ok, Err}
use Rattle.path_name.specs.Given.{◌>>=◌}
use Rattle.path_name.specs.Orders.{bytes_are_equal}
use Rattle.path_name.specs.Paths.{path_text}
use Rattle.tree_dev.specs.Trees.{FileTree, kind_at, list_at}
use Rattle.tree_dev.specs.Kinds.{names_entry}
use Rattle.tree_dev.specs.Projects.{vendor_path, work_path, is_within}
use Rattle.tree_dev.specs.declared.entry.Kind.{Kind}
use Rattle.tree_dev.specs.declared.entry.Kind.TheVariants as kinds
use Rattle.tree_dev.specs.declared.entry.ListAnswer.{ListAnswer}
use Rattle.tree_dev.specs.declared.entry.ListAnswer.TheVariants as listings
use Rattle.tree_dev.specs.declared.limits.LimitKind.TheVariants as limits
use Rattle.pkg_pool.specs.declared.fault.PoolFault.{PoolFault}
use Rattle.pkg_pool.specs.declared.fault.PoolFault.TheVariants as faults
use Rattle.pkg_pool.specs.declared.origin.Origin.{Origin}
use Rattle.pkg_pool.specs.Outcomes.{each_in_turn}

-- `*`: any one name that doesn't begin with `.`
abbrev pub is_wild : List ℕ → Bool
is_wild segment = bytes_are_equal segment (42 ∷ [])

abbrev pub is_hidden : List ℕ → Bool
is_hidden [] = false
is_hidden (first ∷ rest) = first == 46

-- at or below what an install writes: the project's vendor folder, or the one in which it works
unfoldable pub is_installed : List (List ℕ) → List (List ℕ) → Bool
is_installed project path = is_within (vendor_path project) path || is_within (work_path project) path

-- no folder of a package: the project, a folder above it, or what an install writes
unfoldable pub is_barred : List (List ℕ) → List (List ℕ) → Bool
is_barred project path = is_within path project || is_installed project path

-- what was found, and how many entries may then still be listed
pub record Found : Type 0 where
  pub paths : List (List (List ℕ))
  pub left : ℕ

-- what is found behind what was found before
abbrev pub behind : List (List (List ℕ)) → Result Found PoolFault → Result Found PoolFault
behind before found = found >>= λ more. Ok (record { paths = before ++ more.paths; left = more.left })

-- where the segments lead
abbrev pub seen_from : Origin → List (List ℕ) → List (List ℕ)
seen_from origin path = origin.start ++ path

-- ---- one `*`

-- the names that listing a folder tells, where no more may be listed than so many entries; a `*` matches nothing in
-- what is no folder
abbrev pub names_told : ℕ → ListAnswer → Result (List (List ℕ)) PoolFault
names_told left (listings.Names names) = if nat_lt left (length names) then Err (faults.Limit limits.Entries) else Ok names
names_told left listings.Absent = Ok []
names_told left listings.NotFolder = Ok []
names_told left listings.TooMany = Err (faults.Limit limits.Entries)

unfoldable pub names_listed : FileTree → List (List ℕ) → ℕ → Result (List (List ℕ)) PoolFault
names_listed t folder left = names_told left (list_at t folder left)

-- what these names of a folder's entries name
abbrev pub shown_in : List (List ℕ) → List (List ℕ) → List (List (List ℕ))
shown_in folder names = map (λ name. folder ++ name ∷ []) (filter (λ name. not (is_hidden name)) names)

-- a `*` in one folder; what an install writes is not listed
unfoldable pub folder_expanded : FileTree → Origin → List (List ℕ) → ℕ → Result Found PoolFault
folder_expanded t origin folder left = if is_installed origin.project (seen_from origin folder) then Ok (record { paths = []; left = left }) else (do
  names ← names_listed t (seen_from origin folder) left
  Ok (record { paths = shown_in folder names; left = left - length names }))

-- what a `*` names in a folder, behind what was found before
abbrev pub then_expanded : FileTree → Origin → List (List ℕ) → Found → Result Found PoolFault
then_expanded t origin folder found = behind found.paths (folder_expanded t origin folder found.left)

-- a `*` in folders, in their order
abbrev pub folders_expanded : FileTree → Origin → List (List (List ℕ)) → Found → Result Found PoolFault
folders_expanded t origin folders found = each_in_turn (then_expanded t origin) folders found

-- ---- a pattern

-- one segment behind folders
unfoldable pub segment_expanded : FileTree → Origin → List ℕ → Found → Result Found PoolFault
segment_expanded t origin segment folders =
    if is_wild segment then folders_expanded t origin folders.paths (record { paths = []; left = folders.left })
    else Ok (record { paths = map (λ folder. folder ++ segment ∷ []) folders.paths; left = folders.left })

-- the segments from the left
abbrev pub pattern_expanded : FileTree → Origin → List (List ℕ) → Found → Result Found PoolFault
pattern_expanded t origin pattern folders = each_in_turn (segment_expanded t origin) pattern folders

-- an entry is there, and does not lie in what an install writes
unfoldable pub is_counted : FileTree → Origin → List (List ℕ) → Bool
is_counted t origin path = not (is_installed origin.project (seen_from origin path)) && names_entry (kind_at t (seen_from origin path))

-- where it is there, it lies too deep
unfoldable pub entry_refused : FileTree → Origin → List (List ℕ) → Result (Unit {0}) PoolFault
entry_refused t origin path = if is_counted t origin path then Err (faults.Limit (limits.Depth (seen_from origin path))) else Ok tt

-- none of these is there, or the first that is lies too deep
abbrev pub none_is_there : FileTree → Origin → List (List (List ℕ)) → Result (Unit {0}) PoolFault
none_is_there t origin paths = each_in_turn (λ path passed. entry_refused t origin path) paths tt

-- what is left of a pattern behind the segments that may be matched: it can match nothing
unfoldable pub too_deep : FileTree → Origin → List (List ℕ) → Found → Result Found PoolFault
too_deep t origin [] found = Ok found
too_deep t origin (segment ∷ pattern) found = do
  next ← segment_expanded t origin segment found
  passed ← none_is_there t origin next.paths
  Ok (record { paths = []; left = next.left })

-- the segments that may be matched below the folder in which the first `*` is
abbrev pub near_count : List (List ℕ) → ℕ
near_count pattern = min (length pattern) 64

-- a pattern that begins with a `*`, in the folder before it
unfoldable pub stars_expanded : FileTree → Origin → List (List ℕ) → List (List ℕ) → ℕ → Result Found PoolFault
stars_expanded t origin pattern folder left = do
  near ← pattern_expanded t origin (take (near_count pattern) pattern) (record { paths = folder ∷ []; left = left })
  too_deep t origin (drop (near_count pattern) pattern) near

-- ---- a url

-- a folder that a url without `*` names
abbrev pub sole_by_kind : List (List ℕ) → Kind → Result (Unit {0}) PoolFault
sole_by_kind path kinds.Absent = Err (faults.MissingPath (path_text path))
sole_by_kind path kinds.File = Err (faults.OtherEntry path)
sole_by_kind path kinds.Folder = Ok tt
sole_by_kind path kinds.Other = Err (faults.OtherEntry path)

-- it must be there; one that can be no package's folder is taken as absent
unfoldable pub sole_folder : FileTree → Origin → List (List ℕ) → Result (Unit {0}) PoolFault
sole_folder t origin folder =
    if is_barred origin.project (seen_from origin folder) then Err (faults.MissingPath (path_text (seen_from origin folder)))
    else sole_by_kind (seen_from origin folder) (kind_at t (seen_from origin folder))

-- the segments before the first `*`, and those from it on
abbrev pub fixed_part : List (List ℕ) → List (List ℕ)
fixed_part [] = []
fixed_part (segment ∷ segments) = if is_wild segment then [] else segment ∷ fixed_part segments

abbrev pub wild_part : List (List ℕ) → List (List ℕ)
wild_part [] = []
wild_part (segment ∷ segments) = if is_wild segment then segment ∷ segments else wild_part segments

abbrev pub parts_expanded : FileTree → Origin → List (List ℕ) → List (List ℕ) → ℕ → Result Found PoolFault
parts_expanded t origin fixed [] left = do
  passed ← sole_folder t origin fixed
  Ok (record { paths = fixed ∷ []; left = left })
parts_expanded t origin fixed (star ∷ pattern) left = stars_expanded t origin (star ∷ pattern) fixed left

-- the folders that a url names, in path order
unfoldable pub url_expanded : FileTree → Origin → List (List ℕ) → ℕ → Result Found PoolFault
url_expanded t origin segments left = parts_expanded t origin (fixed_part segments) (wild_part segments) left

-- where a url begins that leads up from a project: it may not lead above the root
unfoldable pub start_of : List (List ℕ) → ℕ → List ℕ → Result (List (List ℕ)) PoolFault
start_of project up written = if nat_lt (length project) up then Err (faults.MissingPath written) else Ok (take (length project - up) project)
