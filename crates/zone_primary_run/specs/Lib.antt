pub mod PrimaryStatuses
pub mod ScriptPrimaries
pub mod PrimaryFaults
pub mod PrimaryRuns
