-- Laws of the refusals by counts, of a sheet's counts, and of what a need means.
pub mod CountLaws
pub mod NeedLaws
mod BoundLaws
mod DecideLaws
mod CountedLaws
