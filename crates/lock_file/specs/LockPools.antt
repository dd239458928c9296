-- The pool that a lock makes: its packages are the candidates.
use Rattle.std.specs.Prelude.{ℕ, List, [], ◌∷◌, ◌++◌, Result, Ok, Err}
use Rattle.path_name.specs.Given.{◌>>=◌}
use Rattle.path_name.specs.FolderRefs.{resolved}
use Rattle.path_name.specs.declared.fault.PathFault.{PathFault}
use Rattle.path_name.specs.declared.fault.PathFault.TheVariants as path_faults
use Rattle.manifest_read.specs.declared.types.Manifest.{Manifest}
use Rattle.pkg_pool.specs.declared.pool.Candidate.{Candidate}
use Rattle.pkg_pool.specs.declared.pool.Pool.{Pool}
use Rattle.lock_file.specs.declared.types.Locked.{Locked}
use Rattle.lock_file.specs.declared.types.Lock.{Lock}
use Rattle.lock_file.specs.declared.fault.LockPoolFault.{LockPoolFault}
use Rattle.lock_file.specs.declared.fault.LockPoolFault.TheVariants.{AboveRoot, OutOfMemory}

-- the folder of a url, or the name of its package where the url leaves the tree
abbrev pub folder_or_fault : List ℕ → Result (List (List ℕ)) PathFault → Result (List (List ℕ)) LockPoolFault
folder_or_fault name (Ok folder) = Ok folder
folder_or_fault name (Err (path_faults.AboveRoot at)) = Err (AboveRoot name)
folder_or_fault name (Err (path_faults.BadSegment at)) = Err (AboveRoot name)
folder_or_fault name (Err path_faults.OutOfMemory) = Err OutOfMemory

unfoldable pub candidate_of : List (List ℕ) → Locked → Result Candidate LockPoolFault
candidate_of project locked = do
  folder ← folder_or_fault locked.«package».name (resolved locked.url project)
  Ok (record { «package» = locked.«package»; repository = 0; url = locked.url; folder = folder; reference = locked.reference })

-- the candidates of locked packages in order; the first refusal is the answer
unfoldable pub candidates_of : List (List ℕ) → List Locked → Result (List Candidate) LockPoolFault
candidates_of project [] = Ok []
candidates_of project (locked ∷ others) = do
  candidate ← candidate_of project locked
  candidates ← candidates_of project others
  Ok (candidate ∷ candidates)

-- those of `packages` first
unfoldable pub lock_pool_of : Manifest → Lock → List (List ℕ) → Result Pool LockPoolFault
lock_pool_of root lock project = do
  candidates ← candidates_of project lock.packages
  candidates_dev ← candidates_of project lock.packages_dev
  Ok (record { root = root; candidates = candidates ++ candidates_dev })
