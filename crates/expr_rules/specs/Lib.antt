pub mod Answers
pub mod Inverse
pub mod Reads
pub mod Links
pub mod Keywords
