pub mod Plain
pub mod Linked
pub mod Siblings
pub mod Ways
pub mod WayFacts
pub mod ChainParts
pub mod Decision
pub mod Ends
