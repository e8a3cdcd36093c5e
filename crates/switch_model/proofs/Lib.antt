mod ArmLaws
mod ArmsLaws
mod BlockLaws
mod BodyLaws
pub mod GrowLaws
pub mod LastLaws
pub mod LoopLaws
pub mod NodeLaws
pub mod SameLaws
pub mod SwitchLaws
mod TableLaws
mod TargetLaws
mod TryLaws
pub mod WantLaws
pub mod WholeLaws
