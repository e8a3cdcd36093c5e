pub mod Answer
pub mod Told
pub mod Making
pub mod Switched
