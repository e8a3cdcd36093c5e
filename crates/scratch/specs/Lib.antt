pub mod Clear
pub mod Places
