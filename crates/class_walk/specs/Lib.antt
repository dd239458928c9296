pub mod Patterns
pub mod Matching
pub mod Reached
pub mod Walks
pub mod Faults
pub mod Searches
