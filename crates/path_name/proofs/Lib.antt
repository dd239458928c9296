pub mod Joining
pub mod PathOrder
pub mod Parts
pub mod PathTexts
pub mod FolderTexts
pub mod DecimalTexts
pub mod ReadPaths
