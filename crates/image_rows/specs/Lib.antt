pub mod AllRows
pub mod Scratch
