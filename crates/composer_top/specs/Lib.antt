pub mod Chosen
pub mod Outcome
pub mod Completeness
pub mod Opened
pub mod Writing
pub mod Recovered
