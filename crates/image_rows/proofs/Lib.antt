-- Laws of rows: reading them, what the scratch holds of them, and runs of rows with one mark.
mod ReadLaws
pub mod ScratchLaws
pub mod SeenLaws
mod RunLaws
mod NamedLaws
