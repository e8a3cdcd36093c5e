mod Computed
pub mod RowsRight
