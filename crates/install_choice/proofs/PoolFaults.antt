-- Faults of reading the packages of repositories, as refusals.
use Rattle.std.proofs.Common.{◌≡◌, Result, Err, IsTrue, refl, ap, inl, inr}
use Rattle.std.specs.Prelude.{◌⊎◌}
use Rattle.pkg_pool.specs.Outcomes as pools
use Rattle.pkg_pool.specs.declared.fault.PoolFault.{PoolFault}
use Rattle.pkg_pool.specs.declared.fault.PoolFault.TheVariants as pool_faults
use Rattle.project_files.proofs.FileFaults.{from_tree}
use Rattle.run_answers.specs.Faults.{is_free, is_of_device, is_of_tree}
use Rattle.run_answers.specs.declared.refusal.NamedFile.TheVariants.{Member}
use Rattle.install_choice.specs.Refusals.{document_fault_of, or_not_loaded, refusal_of_pool}

pub pool_device : (fault : PoolFault) → pools.is_of_device fault ≡ is_of_device (refusal_of_pool fault)
pool_device (pool_faults.MissingPath text) = refl
pool_device (pool_faults.BadManifest path fault) = refl
pool_device (pool_faults.NotOffered path pointer) = refl
pool_device (pool_faults.OtherEntry path) = refl
pool_device (pool_faults.Limit limit) = refl
pool_device (pool_faults.Vanished path) = refl
pool_device pool_faults.DeviceFault = refl
pool_device pool_faults.OutOfMemory = refl

free_pool : (fault : PoolFault) → IsTrue (pools.is_free fault) → IsTrue (is_free (refusal_of_pool fault))
free_pool (pool_faults.MissingPath text) free = absurd cc
free_pool (pool_faults.BadManifest path fault) free = absurd cc
free_pool (pool_faults.NotOffered path pointer) free = absurd cc
free_pool (pool_faults.OtherEntry path) free = absurd cc
free_pool (pool_faults.Limit limit) free = absurd cc
free_pool (pool_faults.Vanished path) free = absurd cc
free_pool pool_faults.DeviceFault free = refl
free_pool pool_faults.OutOfMemory free = refl

pub pool_told : {X : Type 0} (wanted : Result X PoolFault) (fault : PoolFault) → (IsTrue (pools.is_free fault) ⊎ (wanted ≡ Err fault))
    → IsTrue (is_free (refusal_of_pool fault)) ⊎ (or_not_loaded wanted ≡ Err (refusal_of_pool fault))
pool_told wanted fault (inl free) = inl (free_pool fault free)
pool_told wanted fault (inr told) = inr (ap or_not_loaded told)

-- it comes from the tree
pub pool_cause : (fault : PoolFault) → IsTrue (is_of_tree (refusal_of_pool fault))
pool_cause (pool_faults.MissingPath text) = refl
pool_cause (pool_faults.BadManifest path fault) = from_tree (Member path) (document_fault_of fault)
pool_cause (pool_faults.NotOffered path pointer) = refl
pool_cause (pool_faults.OtherEntry path) = refl
pool_cause (pool_faults.Limit limit) = refl
pool_cause (pool_faults.Vanished path) = refl
pool_cause pool_faults.DeviceFault = refl
pool_cause pool_faults.OutOfMemory = refl
