mod ReadLaws
pub mod NameLaws
