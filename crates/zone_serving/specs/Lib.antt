pub mod ZoneReplies
pub mod Refusals
pub mod StreamServing
pub mod WholeStreams
