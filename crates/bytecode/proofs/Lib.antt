-- Laws of the table of effects.
pub mod TableLaws
pub mod RowLaws
pub mod NamedLaws
