pub mod WholeSets
pub mod PackagePaths
pub mod PlacedEach
pub mod LockEntries
