-- Laws of rows by their numbers, of the tables, and of rows read from the flat table.
pub mod Filled
pub mod TableLaws
pub mod RowLaws
mod NamedLaws
