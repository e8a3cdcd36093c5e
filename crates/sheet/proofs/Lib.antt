pub mod NamespaceLaws
pub mod RangeWalkLaws
pub mod SiblingLaws
mod StartLaws
pub mod WalkLaws
pub mod WalkedLaws
