pub mod Granted
mod Histories
mod Outdated
