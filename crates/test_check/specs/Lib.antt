pub mod Build
pub mod Rows
