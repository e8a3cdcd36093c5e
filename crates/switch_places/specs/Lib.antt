pub mod Counted
pub mod Laid
pub mod Idle
pub mod Finished
pub mod Known
pub mod Body
pub mod GuardChain
pub mod Heads
