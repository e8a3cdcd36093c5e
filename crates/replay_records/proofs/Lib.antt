pub mod AgreedLaws
pub mod IndexedLaws
pub mod LeftLaws
mod SheetsLaws
mod NamedLaws
