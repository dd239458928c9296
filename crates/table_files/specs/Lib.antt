pub mod Modes
pub mod Counts
pub mod Members
pub mod WalkRefusals
pub mod NewTables
pub mod Written
pub mod TableFolders
pub mod Readable
