pub mod Jobs
pub mod BuiltTables
pub mod Answers
pub mod Steps
pub mod ClassAgreement
