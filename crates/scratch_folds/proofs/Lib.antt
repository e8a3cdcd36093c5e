-- Laws of the hash of bytes, and of what is kept of it.
pub mod HashLaws
pub mod PowerLaws
pub mod SumsLaws
mod NamedLaws
