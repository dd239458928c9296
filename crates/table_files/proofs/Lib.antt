pub mod ToldExits
pub mod Yielded
pub mod NamedItems
pub mod WalkFaults
pub mod TablesMade
pub mod CheckedFiles
pub mod WrittenParts
pub mod TableParents
