pub mod TsigData
pub mod TsigParts
pub mod TsigOrder
pub mod CanonicalTsig
pub mod TsigText
