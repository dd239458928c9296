pub mod Choices
pub mod Needs
pub mod Queue
pub mod Searching
pub mod Work
