pub mod Sizes
pub mod Answer
