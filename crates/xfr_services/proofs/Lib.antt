pub mod Headers
pub mod LongReplies
pub mod Making
