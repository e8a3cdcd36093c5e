-- Laws of where a node's code ends.
mod EndLaws
mod AfterLaws
mod ArmDoes
mod CallDoes
pub mod CycleDoes
mod CycleMore
pub mod Doing
pub mod EndDoes
mod KeyFacts
mod LeafDoes
mod NameDoes
mod SiblingsLaws
mod StepDoes
mod WalkDoes
mod WayLaws
mod WaySays
mod NamedLaws
