pub mod Needed
pub mod Counts
pub mod Means
