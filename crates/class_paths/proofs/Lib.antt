pub mod Members
pub mod PrefixOrder
pub mod PathParts
pub mod ClassParts
pub mod TriedRows
