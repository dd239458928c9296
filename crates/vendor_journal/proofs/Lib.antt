mod CallRules
mod CommitPlaces
mod FaultRules
mod HoldRules
pub mod InstallSteps
pub mod JobMoves
mod JournalPlaced
mod PreparedParts
