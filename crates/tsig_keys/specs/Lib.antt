pub mod Hmac
pub mod HmacState
pub mod TsigKeys
pub mod Keys
pub mod KeySources
