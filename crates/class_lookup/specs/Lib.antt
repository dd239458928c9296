pub mod ClassNames
pub mod Lookup
pub mod Groups
pub mod Found
