pub mod Given
pub mod Asked
pub mod Judged
pub mod Fourteen
