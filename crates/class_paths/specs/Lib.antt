pub mod Prefixes
pub mod ClassNames
pub mod RowPath
pub mod PathTexts
pub mod Candidates
pub mod Search
