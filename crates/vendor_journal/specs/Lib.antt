pub mod Faults
pub mod Prepared
pub mod Committing
pub mod JobTargets
