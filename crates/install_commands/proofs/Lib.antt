pub mod Claims
pub mod Faults
pub mod Flights
pub mod ToldEnds
pub mod Ends
pub mod WriteCounts
pub mod Recoveries
pub mod Commanding
