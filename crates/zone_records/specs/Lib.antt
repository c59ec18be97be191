pub mod Parsed
pub mod Taking
pub mod TypeSteps
pub mod Seen
pub mod Refusals
pub mod Faults
pub mod Causes
pub mod OpeningSets
