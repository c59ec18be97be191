pub mod Histories
pub mod HistoryRows
