pub mod Change
pub mod Last
