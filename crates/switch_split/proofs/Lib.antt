mod DedupLaws
pub mod ExcessLaws
pub mod HeldLaws
mod InsertLaws
pub mod JoinLaws
pub mod OrderLaws
pub mod PieceLaws
pub mod PointsLaws
mod RangeLaws
mod RowsRight
mod SortLaws
pub mod SplitLaws
pub mod SplitRight
mod WordLaws
mod NamedLaws
