pub mod BatchAdding
pub mod BatchRooms
pub mod BatchHistories
pub mod BatchLists
pub mod AxfrHeaders
pub mod XfrReady
pub mod XfrAnswers
