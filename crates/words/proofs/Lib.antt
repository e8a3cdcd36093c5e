pub mod CutLaws
pub mod CountLaws
pub mod PartLaws
pub mod RangeLaws
pub mod WordLaws
