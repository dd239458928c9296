pub mod HashedText
pub mod Ids
pub mod HashedParts
