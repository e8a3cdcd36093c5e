pub mod Limits
pub mod Tally
pub mod Locals
pub mod Operands
pub mod Plan
pub mod Link
pub mod Count
