pub mod Premises
pub mod Needs
pub mod Leaves
