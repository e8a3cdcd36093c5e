pub mod Hash
pub mod Sums
