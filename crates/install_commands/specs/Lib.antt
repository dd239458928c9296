pub mod Refusals
pub mod Claiming
pub mod Working
pub mod Commanded
pub mod Recovering
