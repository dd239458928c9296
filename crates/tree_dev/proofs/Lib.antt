pub mod Given
pub mod FiniteTrees
pub mod FirstFrom
pub mod NameOrder
pub mod Behind
pub mod SamePaths
pub mod Renames
pub mod Changed
pub mod Snoc
pub mod NextNames
pub mod NamesIn
pub mod Carried
pub mod RenameToFile
pub mod Walking
pub mod Places
pub mod RenamePlaces
pub mod ListAnswers
pub mod Apart
pub mod Kept
pub mod Telling
pub mod TreesAfter
pub mod Ancestors
pub mod ManyEntries
pub mod FoldersAbove
pub mod Lookups
pub mod TreeKept
pub mod Logs
pub mod Images
pub mod Moments
pub mod Stretches
pub mod ProjectParts
pub mod SteadyRules
pub mod Unwritten
pub mod Whole
pub mod Recovered
mod PlacesKept
mod Remaking
mod TornChanges
