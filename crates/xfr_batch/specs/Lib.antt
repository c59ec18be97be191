pub mod Batches
pub mod BatchCalls
pub mod BatchSteps
pub mod Batchers
pub mod ReadyMessages
pub mod XfrBatches
