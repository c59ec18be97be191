pub mod Touched
pub mod Changes
pub mod ChangeRows
pub mod Drafts
