pub mod TargetLaws
pub mod BelowLaws
pub mod KindLaws
