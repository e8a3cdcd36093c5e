pub mod BangLaws
pub mod KeyLaws
pub mod PiecesLaws
pub mod SeekLaws
mod NamedLaws
