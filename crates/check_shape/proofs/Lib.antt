pub mod KindsLaws
mod ReadLaws
pub mod ShapeLaws
pub mod RowLaws
