pub mod Found
pub mod Ends
pub mod Named
