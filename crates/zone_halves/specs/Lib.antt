pub mod Meeting
pub mod Programs
