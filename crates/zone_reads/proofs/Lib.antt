pub mod ChildNames
pub mod Existence
mod JoinedRecords
pub mod LentTypes
pub mod NameSets
pub mod NodeNames
mod NodeParts
pub mod Alike
pub mod Walks
