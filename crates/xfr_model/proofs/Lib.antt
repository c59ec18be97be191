pub mod ReadingBuilt
pub mod Runs
pub mod Readers
pub mod InTurn
pub mod PageReading
pub mod Refused
pub mod Limits
pub mod FinerSteps
