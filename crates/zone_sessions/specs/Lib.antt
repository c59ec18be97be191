pub mod Pending
pub mod Nodes
pub mod Opening
