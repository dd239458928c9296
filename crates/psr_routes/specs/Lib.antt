pub mod Groups
pub mod PackageOrder
pub mod Numbers
pub mod Waiting
pub mod Routes
pub mod Sources
