-- The packages that are to be installed, with the folders that they are copied from.
use Rattle.std.specs.Prelude.{◌≡◌, ℕ, List, [], ◌∷◌, ◌++◌, map, Bool, true, false, if◌then◌else◌, Result, Ok, Err}
use Rattle.std.specs.List.{AllByRecursion, IsDistinct}
use Rattle.path_name.specs.FolderRefs.{folder_text, resolved}
use Rattle.path_name.specs.Given.{◌>>=◌}
use Rattle.path_name.specs.Orders.{bytes_are_equal}
use Rattle.path_name.specs.Paths.{path_text}
use Rattle.path_name.specs.declared.fault.PathFault.{PathFault}
use Rattle.path_name.specs.declared.folder_ref.FolderRef.{FolderRef}
use Rattle.tree_dev.specs.Trees.{FileTree, kind_at}
use Rattle.tree_dev.specs.declared.entry.Kind.{Kind}
use Rattle.tree_dev.specs.declared.entry.Kind.TheVariants as kinds
use Rattle.manifest_read.specs.WellFormed.{IsMember}
use Rattle.manifest_read.specs.declared.types.Package.{Package}
use Rattle.pkg_pool.specs.Patterns.{is_barred}
use Rattle.lock_file.specs.InstalledText.{IsByName, installed_dev}
use Rattle.lock_file.specs.declared.types.Lock.{Lock}
use Rattle.lock_file.specs.declared.types.Locked.{Locked}
use Rattle.psr_routes.specs.declared.types.Placed.{Placed}
use Rattle.run_answers.specs.declared.refusal.Refusal.{Refusal}
use Rattle.run_answers.specs.declared.refusal.Refusal.TheVariants as refusals
use Rattle.install_sources.specs.Folders.{package_place}

-- ---- the folder of one package

abbrev pub folder_or_missing : FolderRef → Result (List (List ℕ)) PathFault → Result (List (List ℕ)) Refusal
folder_or_missing url (Ok folder) = Ok folder
folder_or_missing url (Err fault) = Err (refusals.MissingPath (folder_text url))

-- where its url leads from the project: not above the tree's root
unfoldable pub source_folder : List (List ℕ) → Locked → Result (List (List ℕ)) Refusal
source_folder project locked = folder_or_missing locked.url (resolved locked.url project)

abbrev pub source_by_kind : List (List ℕ) → Kind → Result (List (List ℕ)) Refusal
source_by_kind at kinds.Absent = Err (refusals.MissingPath (path_text at))
source_by_kind at kinds.File = Err (refusals.OtherEntry at)
source_by_kind at kinds.Folder = Ok at
source_by_kind at kinds.Other = Err (refusals.OtherEntry at)

-- A folder must be there. The project, what is above it and what an install writes are taken to be absent.
unfoldable pub source_checked : FileTree → List (List ℕ) → List (List ℕ) → Result (List (List ℕ)) Refusal
source_checked t project at = if is_barred project at then Err (refusals.MissingPath (path_text at)) else source_by_kind at (kind_at t at)

-- ---- packages in their places

-- It is read at its source as its copy will be, and is shown where its copy will stand.
abbrev pub copied_from : List (List ℕ) → Package → List (List ℕ) → Placed
copied_from project party at = record { «package» = party; at = at; shown = package_place project party.name; mirrored = true }

unfoldable pub placed_in : FileTree → List (List ℕ) → Locked → Result Placed Refusal
placed_in t project locked = do
  folder ← source_folder project locked
  at ← source_checked t project folder
  Ok (copied_from project locked.«package» at)

-- packages in their order; the first refusal is the answer
unfoldable pub placed_each : FileTree → List (List ℕ) → List Locked → Result (List Placed) Refusal
placed_each t project [] = Ok []
placed_each t project (locked ∷ others) = do
  placed ← placed_in t project locked
  rest ← placed_each t project others
  Ok (placed ∷ rest)

-- The packages of a lock that are to be installed, in byte order of name, in their places.
pub record AreMembers (t : FileTree) (project : List (List ℕ)) (lock : Lock) (dev : Bool) (made : Result (List Placed) Refusal) : Type 0 where
  pub entries : List Locked
  pub by_name : IsByName (lock.packages ++ installed_dev dev lock) entries
  pub is_made : made ≡ placed_each t project entries

-- ---- what is known of each

abbrev pub placed_name : Placed → List ℕ
placed_name placed = placed.«package».name

-- a member whose folder may be a package's
pub record IsSource (project : List (List ℕ)) (placed : Placed) : Type 0 where
  pub allowed : is_barred project placed.at ≡ false
  pub member : IsMember placed.«package»

-- a member
abbrev pub IsNamed : Placed → Type 0
IsNamed placed = IsMember placed.«package»

-- such members, no two of one name
pub record AreSources (project : List (List ℕ)) (members : List Placed) : Type 0 where
  pub each : AllByRecursion (IsSource project) members
  pub distinct : IsDistinct bytes_are_equal (map placed_name members)
