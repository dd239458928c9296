pub mod IsSimple
pub mod Numbers
pub mod RequiredWords
pub mod Entered
pub mod Tasks
