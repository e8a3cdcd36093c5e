pub mod Checked
pub mod Passing
