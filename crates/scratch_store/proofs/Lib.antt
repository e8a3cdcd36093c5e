pub mod AddLaws
mod AddsLaws
mod DistinctLaws
pub mod DoesLaws
mod EffectLaws
mod EmitLaws
pub mod FrameLaws
pub mod GrowingLaws
pub mod HoldsLaws
mod MemoLaws
pub mod ResidualLaws
pub mod StartLaws
mod TableLaws
mod NamedLaws
