-- The pool of a project: the packages of its path repositories (Composer's documentation, "Repositories", "Path").
use Rattle.std.specs.Prelude.{ℕ, List, [], Bool, true, if◌then◌else◌, Option, Some, None, Result, Ok}
use Rattle.std.specs.List.{enumerate_from}
use Rattle.path_name.specs.Given.{◌>>=◌}
use Rattle.path_name.specs.Paths.{IsPath}
use Rattle.tree_dev.specs.Trees.{FileTree}
use Rattle.content_hash.specs.Ids.{id_of}
use Rattle.manifest_read.specs.declared.types.Package.{Package}
use Rattle.manifest_read.specs.declared.types.Manifest.{Manifest}
use Rattle.manifest_read.specs.declared.types.Repository.{Repository}
use Rattle.pkg_pool.specs.declared.fault.PoolFault.{PoolFault}
use Rattle.pkg_pool.specs.declared.origin.Origin.{Origin}
use Rattle.pkg_pool.specs.declared.pool.Candidate.{Candidate}
use Rattle.pkg_pool.specs.declared.pool.Pool.{Pool}
use Rattle.pkg_pool.specs.declared.gather.Gathered.{Gathered}
use Rattle.pkg_pool.specs.Outcomes.{each_in_turn}
use Rattle.pkg_pool.specs.Patterns.{seen_from, is_barred, url_expanded, start_of}
use Rattle.pkg_pool.specs.Manifests.{manifest_text, package_of}
use Rattle.pkg_pool.specs.Gathering.{IsIndex, with_candidate, bytes_counted}

-- the segments of its url are those of a path
abbrev pub HasPaths : Repository → Type 0
HasPaths repository = IsPath repository.segments

-- ---- one folder

-- Which packages a repository offers: all that are in its folders.
abbrev pub offers : Origin → Package → Bool
offers origin p = true

-- the candidate of a package in a folder: its url leads to the folder, and its reference is the id of its manifest
abbrev pub candidate_of : Origin → List (List ℕ) → List ℕ → Package → Candidate
candidate_of origin folder text p = record {
  «package» = p;
  repository = origin.number;
  url = record { up = origin.up; path = folder };
  folder = seen_from origin folder;
  reference = id_of text;
}

unfoldable pub with_package : Origin → List (List ℕ) → List ℕ → Package → List Candidate → Result (List Candidate) PoolFault
with_package origin folder text p candidates = if offers origin p then with_candidate candidates (candidate_of origin folder text p) else Ok candidates

-- what is gathered: the bytes of all manifests that were read, and the candidates
pub record Gathering : Type 0 where
  pub bytes : ℕ
  pub candidates : List Candidate

-- with the package that the text of a manifest describes
unfoldable pub with_text : Origin → List (List ℕ) → List (List ℕ) → List ℕ → Gathering → Result Gathering PoolFault
with_text origin folder path text g = do
  bytes ← bytes_counted g.bytes text
  p ← package_of path text
  candidates ← with_package origin folder text p g.candidates
  Ok (record { bytes = bytes; candidates = candidates })

abbrev pub with_manifest : Origin → List (List ℕ) → Gathering → Option (List (List ℕ) × List ℕ) → Result Gathering PoolFault
with_manifest origin folder g None = Ok g
with_manifest origin folder g (Some manifest) = with_text origin folder manifest.0 manifest.1 g

-- with the package of a folder; without a composer.json it is passed over
unfoldable pub with_folder : FileTree → Origin → List (List ℕ) → Gathering → Result Gathering PoolFault
with_folder t origin folder g = if is_barred origin.project (seen_from origin folder) then Ok g else (do
  manifest ← manifest_text t (seen_from origin folder)
  with_manifest origin folder g manifest)

-- with those of folders, in their order
abbrev pub with_folders : FileTree → Origin → List (List (List ℕ)) → Gathering → Result Gathering PoolFault
with_folders t origin folders g = each_in_turn (with_folder t origin) folders g

-- ---- repositories

-- what is gathered, and how many entries may still be listed
pub record Progress : Type 0 where
  pub gathering : Gathering
  pub left : ℕ

-- a repository as it is seen from a project
unfoldable pub origin_of : List (List ℕ) → ℕ → Repository → Result Origin PoolFault
origin_of project number repository = do
  start ← start_of project repository.up repository.written
  Ok (record { project = project; start = start; up = repository.up; number = number })

-- all its folders are found before the first manifest is read
unfoldable pub with_repository : FileTree → List (List ℕ) → ℕ → Repository → Progress → Result Progress PoolFault
with_repository t project number repository so_far = do
  origin ← origin_of project number repository
  found ← url_expanded t origin repository.segments so_far.left
  next ← with_folders t origin found.paths so_far.gathering
  Ok (record { gathering = next; left = found.left })

-- repositories with their numbers, in their order
abbrev pub with_numbered : FileTree → List (List ℕ) → ℕ × Repository → Progress → Result Progress PoolFault
with_numbered t project numbered so_far = with_repository t project numbered.0 numbered.1 so_far

abbrev pub with_repositories : FileTree → List (List ℕ) → List Repository → Progress → Result Progress PoolFault
with_repositories t project repositories so_far = each_in_turn (with_numbered t project) (enumerate_from 0 repositories) so_far

-- ---- the pool

pub record Loaded : Type 0 where
  pub pool : Pool
  pub left : ℕ

abbrev pub nothing_yet : ℕ → Progress
nothing_yet left = record { gathering = record { bytes = 0; candidates = [] }; left = left }

-- the pool of a project and its manifest over a tree, with the entries that may then still be listed, or the first refusal
unfoldable pub pool_of_tree : FileTree → List (List ℕ) → Manifest → ℕ → Result Loaded PoolFault
pool_of_tree t project root left = do
  all ← with_repositories t project root.repositories (nothing_yet left)
  Ok (record { pool = record { root = root; candidates = all.gathering.candidates }; left = all.left })

-- ---- what the code keeps

abbrev pub gathering_of : Gathered → Gathering
gathering_of g = record { bytes = g.bytes; candidates = g.candidates.items }

abbrev pub IsSound : Gathered → Type 0
IsSound g = IsIndex g.held g.candidates.items
