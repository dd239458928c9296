pub mod Faults
pub mod SimpleCommand
pub mod Words
