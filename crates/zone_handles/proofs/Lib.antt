pub mod Moves
pub mod EditSteps
pub mod Told
