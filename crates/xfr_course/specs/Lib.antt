pub mod Outcome
pub mod Granting
pub mod Client
pub mod Success
pub mod Honest
pub mod Courses
pub mod Joining
pub mod CourseRows
