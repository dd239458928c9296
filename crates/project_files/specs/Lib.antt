pub mod Places
pub mod Texts
pub mod Documents
pub mod ProjectManifest
pub mod ProjectLock
pub mod InstalledFiles
pub mod States
