pub mod Keys
pub mod Used
pub mod Bang
pub mod Pieces
