pub mod RestSteps
pub mod Adding
mod Deleting
pub mod Hiding
pub mod MessageParts
pub mod Places
pub mod Sections
pub mod FirstMessage
pub mod Taking
pub mod UnknownData
pub mod ToldAll
pub mod Published
mod ToldOf
pub mod EditsLead
pub mod UpdatesLead
pub mod Named
pub mod WhatIsRead
mod Steps
mod ReplyPlaces
pub mod Standings
mod Answering
pub mod Outcomes
mod Messages
mod Room
mod TakingReplies
mod Unended
pub mod Checking
pub mod Clients
pub mod Requests
pub mod Replying
pub mod Handles
pub mod Growing
pub mod Unasked
