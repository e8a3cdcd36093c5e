pub mod ChainRows
pub mod PutLaws
pub mod RowLaws
mod StepRows
mod NamedLaws
