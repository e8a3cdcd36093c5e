-- Facts of no crate in particular. What mathlib.Core.Bool, lib.ListN and lib.Seq have is not here.
pub mod Bool
pub mod Numbers
