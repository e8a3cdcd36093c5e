pub mod Agreed
pub mod Counted
pub mod Left
pub mod Replayed
pub mod Sheets
