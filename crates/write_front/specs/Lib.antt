pub mod Front
pub mod Puts
pub mod Reach
