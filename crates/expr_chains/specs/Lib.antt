pub mod Variable
pub mod Steps
pub mod Same
pub mod Lowers
pub mod Walked
pub mod Pooled
pub mod Kept
