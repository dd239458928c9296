pub mod Solids
pub mod Visited
pub mod Gaps
pub mod Silence
pub mod Tails
