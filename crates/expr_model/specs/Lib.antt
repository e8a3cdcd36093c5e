pub mod Made
pub mod Construct
