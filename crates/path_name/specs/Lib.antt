pub mod Given
pub mod Refusals
pub mod Orders
pub mod Bytes
pub mod Decimals
pub mod Paths
pub mod Joined
pub mod FolderRefs
