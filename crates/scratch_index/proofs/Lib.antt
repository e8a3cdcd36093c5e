-- Laws of the index by hash, of the four pools and of the memos.
mod PrevLaws
mod SearchLaws
pub mod DifferLaws
mod IndexedLaws
mod TableLaws
pub mod LookupLaws
pub mod PoolLaws
pub mod BesideLaws
pub mod ConstLaws
pub mod NameLaws
pub mod SlotLaws
pub mod MemoLaws
pub mod HeldLaws
mod ChainLaws
pub mod ChainHashLaws
mod ChainWalkLaws
pub mod LodgeLaws
pub mod LocalLaws
pub mod IndexesLaws
pub mod StartLaws
mod NamedLaws
