-- Laws of parts of the scratch, of words that are cleared, and of the places of the indexes.
pub mod RegionLaws
pub mod ClearLaws
pub mod PlaceLaws
mod NamedLaws
