pub mod FrontFacts
mod FrontLaws
pub mod PutsLaws
mod RoomLaws
mod RowLengths
mod NamedLaws
