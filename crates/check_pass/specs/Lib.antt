pub mod Fine
pub mod Limits
pub mod Words
pub mod Sizes
pub mod Levels
