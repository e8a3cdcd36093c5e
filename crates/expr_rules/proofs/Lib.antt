mod KeywordLaws
mod ReadLaws
pub mod ReceiverLaws
pub mod InverseLaws
pub mod ReadsLaws
pub mod LinksLaws
mod NamedLaws
