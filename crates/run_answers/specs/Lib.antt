pub mod Statuses
pub mod Messages
pub mod Faults
pub mod Steps
