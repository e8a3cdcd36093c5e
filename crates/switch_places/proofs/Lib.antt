-- Laws of the plan of a switch.
pub mod KeptLaws
mod ReadLaws
mod SmallLaws
mod IdleLaws
mod SumLaws
mod CountLaws
mod GuardLaws
mod BodyLaws
mod ChainLaws
mod LaidLaws
