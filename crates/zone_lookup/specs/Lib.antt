pub mod Replies
pub mod Sending
pub mod Answers
pub mod Owned
