-- The pool of a lock has the root that it is made for.
use Rattle.std.proofs.Common.{◌≡◌, List, ◌++◌, Result, Ok, Err, ℕ, sym, ap}
use Rattle.path_name.specs.Given.{◌>>=◌}
use Rattle.lock_file.specs.LockPools.{candidates_of, lock_pool_of}
use Rattle.lock_file.specs.declared.fault.LockPoolFault.{LockPoolFault}
use Rattle.lock_file.specs.declared.types.Lock.{Lock}
use Rattle.manifest_read.specs.declared.types.Manifest.{Manifest}
use Rattle.pkg_pool.specs.declared.pool.Candidate.{Candidate}
use Rattle.pkg_pool.specs.declared.pool.Pool.{Pool}
use Rattle.project_files.specs.ProjectLock.{or_no_pool, pool_in}

kept_root : (lock : Lock) (root : Manifest) (pool : Pool) (first second : Result (List Candidate) LockPoolFault)
    → or_no_pool lock (first >>= λ candidates. second >>= λ more. Ok (record { root = root; candidates = candidates ++ more })) ≡ Ok pool → pool.root ≡ root
kept_root lock root pool (Ok candidates) (Ok more) e = let same : record { root = root; candidates = candidates ++ more } ≡ pool = cc in ap (λ (it : Pool). it.root) (sym same)
kept_root lock root pool (Ok candidates) (Err fault) e = absurd cc
kept_root lock root pool (Err fault) second e = absurd cc

pub pool_root : (root : Manifest) (lock : Lock) (project : List (List ℕ)) (pool : Pool) → pool_in root lock project ≡ Ok pool → pool.root ≡ root
unfolding pool_in lock_pool_of
pool_root root lock project pool e = kept_root lock root pool (candidates_of project lock.packages) (candidates_of project lock.packages_dev) e
