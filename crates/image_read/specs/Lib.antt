pub mod Most
pub mod Targets
pub mod Pools
pub mod Placed
pub mod Kinds
