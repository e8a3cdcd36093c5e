pub mod Excess
pub mod Held
pub mod Range
pub mod Points
pub mod Split
pub mod Piece
pub mod Rows
