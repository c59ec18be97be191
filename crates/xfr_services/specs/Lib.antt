pub mod Modes
pub mod Requests
pub mod Items
pub mod Replying
pub mod LongReplies
