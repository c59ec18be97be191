mod WalkLines
mod Counted
pub mod ReportedAnswers
pub mod WrittenParts
