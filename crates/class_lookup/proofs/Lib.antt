pub mod RowGroups
pub mod TableRoutes
pub mod Prefixes
pub mod Lookups
