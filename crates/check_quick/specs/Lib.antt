pub mod Parts
pub mod Quick
