pub mod ClassMaps
pub mod Standing
pub mod Dumping
pub mod DumpedProjects
