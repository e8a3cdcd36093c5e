pub mod Kinds
pub mod Shape
pub mod Rows
