-- Laws of the numbers of cases.
pub mod KeyLaws
mod ReadLaws
pub mod SwitchLaws
mod NamedLaws
