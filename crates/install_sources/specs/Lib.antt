pub mod Folders
pub mod Lines
pub mod Sources
pub mod Verdicts
