-- Laws of what is walked along the links of a chain.
mod WalkedLaws
pub mod AddsLaws
pub mod CloseLaws
mod FieldLaws
pub mod FindLaws
pub mod Grow
pub mod KeptLaws
pub mod LinkLaws
pub mod LoopLaws
pub mod LowersLaws
pub mod NameLaws
pub mod RootLaws
pub mod SameLaws
pub mod StayLaws
mod SteadyLaws
mod TestLaws
mod VariableLaws
pub mod WalkLaws
pub mod WordsLaws
mod NamedLaws
