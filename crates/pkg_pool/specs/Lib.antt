pub mod Outcomes
pub mod Patterns
pub mod Manifests
pub mod Matches
pub mod Gathering
pub mod Pools
pub mod Offered
pub mod Stability
