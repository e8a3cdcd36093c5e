-- Laws of heads: numbers of lists among the distinct ones, the targets that they name, and the loops over cases and bands.
pub mod NumbersLaws
pub mod TargetLaws
mod SearchLaws
mod FillLaws
mod CaseLaws
mod BandLaws
mod NamedLaws
