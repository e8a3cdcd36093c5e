-- Laws of names by their lengths.
pub mod LengthLaws
mod SlotLaws
mod LastLaws
