pub mod Refusals
pub mod Sequences
pub mod Planning
pub mod Choosing
pub mod Warnings
pub mod LockLaws
