mod CutLaws
mod LessLaws
pub mod ReadLaws
mod NamedLaws
