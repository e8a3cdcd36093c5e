pub mod Marks
pub mod Joining
