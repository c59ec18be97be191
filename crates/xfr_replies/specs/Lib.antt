pub mod Sides
pub mod Places
pub mod Steps
pub mod TransferPages
pub mod PagedReplies
pub mod PulledStreams
