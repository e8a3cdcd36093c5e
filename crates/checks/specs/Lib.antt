pub mod Checked
pub mod Compute
pub mod EmptyNames
pub mod Rest
