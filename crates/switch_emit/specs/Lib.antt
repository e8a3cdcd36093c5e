pub mod Ready
pub mod Parts
pub mod Heads
pub mod From
pub mod Consts
