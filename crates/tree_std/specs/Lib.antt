pub mod Untold
pub mod Reading
pub mod Writing
