-- Faults of reading the packages of repositories, as refusals.
use Rattle.std.specs.Prelude.{Result, Ok, Err}
use Rattle.pkg_pool.specs.declared.fault.ManifestFault.{ManifestFault}
use Rattle.pkg_pool.specs.declared.fault.ManifestFault.TheVariants as manifests
use Rattle.pkg_pool.specs.declared.fault.PoolFault.{PoolFault}
use Rattle.pkg_pool.specs.declared.fault.PoolFault.TheVariants as pools
use Rattle.run_answers.specs.declared.refusal.DocumentFault.{DocumentFault}
use Rattle.run_answers.specs.declared.refusal.DocumentFault.TheVariants as documents
use Rattle.run_answers.specs.declared.refusal.NamedFile.TheVariants.{Member}
use Rattle.run_answers.specs.declared.refusal.Place.TheVariants.{Entry}
use Rattle.run_answers.specs.declared.refusal.Refusal.{Refusal}
use Rattle.run_answers.specs.declared.refusal.Refusal.TheVariants as refusals

-- what is wrong in the composer.json of a package
abbrev pub document_fault_of : ManifestFault → DocumentFault
document_fault_of (manifests.NotUtf8 at) = documents.NotUtf8 at
document_fault_of (manifests.Syntax at) = documents.Syntax at
document_fault_of (manifests.TooDeep at) = documents.TooDeep at
document_fault_of (manifests.BadField pointer) = documents.BadField pointer
document_fault_of (manifests.ReservedName name) = documents.ReservedName name

abbrev pub refusal_of_pool : PoolFault → Refusal
refusal_of_pool (pools.MissingPath text) = refusals.MissingPath text
refusal_of_pool (pools.BadManifest at fault) = refusals.BadDocument (Member at) (document_fault_of fault)
refusal_of_pool (pools.NotOffered at pointer) = refusals.NotOffered (Member at) pointer
refusal_of_pool (pools.OtherEntry at) = refusals.OtherEntry at
refusal_of_pool (pools.Limit limit) = refusals.Limit limit
refusal_of_pool (pools.Vanished at) = refusals.Vanished (Entry at)
refusal_of_pool pools.DeviceFault = refusals.DeviceFault
refusal_of_pool pools.OutOfMemory = refusals.OutOfMemory

abbrev pub or_not_loaded : {X : Type 0} → Result X PoolFault → Result X Refusal
or_not_loaded (Ok x) = Ok x
or_not_loaded (Err fault) = Err (refusal_of_pool fault)
