-- Laws of what is read of a switch, and of the flat table's cells.
pub mod NodesLaws
pub mod Accepted
pub mod BandsLaws
pub mod Whole
pub mod PlaceLaws
pub mod SpansLaws
pub mod ColumnLaws
pub mod KindLaws
