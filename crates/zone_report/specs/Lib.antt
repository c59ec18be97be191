pub mod Lines
pub mod Report
pub mod Notices
pub mod ReportsWritten
pub mod StreamFaults
