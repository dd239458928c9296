pub mod InstallParts
pub mod Installing
pub mod Installations
