-- All packages that the repositories of a project offer, and which of them count (Composer's documentation,
-- "Repositories", "Path"). The laws say that the pool of a tree has exactly these.
use Rattle.std.specs.Prelude.{ℕ, List, [], ◌∷◌, ◌++◌, filter_map, Bool, ◌&&◌, if◌then◌else◌, Option, Some, None, Result, Ok, Err}
use Rattle.std.specs.List.{flat_map, list_any, enumerate_from}
use Rattle.path_name.specs.Orders.{bytes_are_equal}
use Rattle.tree_dev.specs.Trees.{FileTree, read_at}
use Rattle.tree_dev.specs.declared.entry.ReadAnswer.{ReadAnswer}
use Rattle.tree_dev.specs.declared.entry.ReadAnswer.TheVariants as answers
use Rattle.manifest_read.specs.declared.types.Package.{Package}
use Rattle.manifest_read.specs.declared.types.Repository.{Repository}
use Rattle.pkg_pool.specs.declared.fault.PoolFault.{PoolFault}
use Rattle.pkg_pool.specs.declared.origin.Origin.{Origin}
use Rattle.pkg_pool.specs.declared.pool.Candidate.{Candidate}
use Rattle.pkg_pool.specs.Patterns.{seen_from}
use Rattle.pkg_pool.specs.Manifests.{manifest_path, package_of}
use Rattle.pkg_pool.specs.Matches.{matches}
use Rattle.pkg_pool.specs.Gathering.{row_of, is_in_way}
use Rattle.pkg_pool.specs.Pools.{offers, candidate_of, origin_of}

-- ---- what is offered

abbrev pub candidate_by : Origin → List (List ℕ) → List ℕ → Result Package PoolFault → Option Candidate
candidate_by origin folder text (Ok p) = if offers origin p then Some (candidate_of origin folder text p) else None
candidate_by origin folder text (Err fault) = None

abbrev pub candidate_read : Origin → List (List ℕ) → ReadAnswer → Option Candidate
candidate_read origin folder (answers.Bytes text) = candidate_by origin folder text (package_of (manifest_path (seen_from origin folder)) text)
candidate_read origin folder answers.Absent = None
candidate_read origin folder answers.NotFile = None
candidate_read origin folder answers.TooLong = None

-- the candidate of the package that the composer.json in a folder describes
unfoldable pub candidate_in : FileTree → Origin → List (List ℕ) → Option Candidate
candidate_in t origin folder = candidate_read origin folder (read_at t (manifest_path (seen_from origin folder)) 67108864)

abbrev pub offered_from : FileTree → List (List ℕ) → Result Origin PoolFault → List Candidate
offered_from t segments (Ok origin) = filter_map (candidate_in t origin) (matches t origin segments)
offered_from t segments (Err fault) = []

-- those of the folders that a repository's url matches, in path order
abbrev pub offered_by : FileTree → List (List ℕ) → ℕ × Repository → List Candidate
offered_by t project numbered = offered_from t numbered.1.segments (origin_of project numbered.0 numbered.1)

-- those of all repositories, in their order
abbrev pub offered : FileTree → List (List ℕ) → List Repository → List Candidate
offered t project repositories = flat_map (offered_by t project) (enumerate_from 0 repositories)

-- ---- what counts

-- an earlier candidate leaves one out: it has its name, and is of another repository or has its version
abbrev pub leaves_out : Candidate → Candidate → Bool
leaves_out c earlier = bytes_are_equal earlier.«package».name c.«package».name && is_in_way c.repository c.«package».version (row_of earlier)

-- those that neither one of them nor one before them leaves out
abbrev pub counted_behind : List Candidate → List Candidate → List Candidate
counted_behind before [] = []
counted_behind before (c ∷ cs) =
    if list_any (leaves_out c) before then counted_behind (before ++ c ∷ []) cs else c ∷ counted_behind (before ++ c ∷ []) cs

-- Of equal name and version in one repository the first counts, and of a name those of the first repository that has it.
abbrev pub counted : List Candidate → List Candidate
counted all = counted_behind [] all
