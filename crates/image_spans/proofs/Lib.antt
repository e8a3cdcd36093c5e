-- Laws of the two tests over runs: operands of chains, and targets of tables.
mod NeedLaws
mod ChainLaws
mod FlowLaws
mod PutLaws
mod TableLaws
pub mod LieLaws
mod NamedLaws
