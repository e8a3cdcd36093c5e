pub mod AfterLaws
pub mod CallFacts
mod CallLaws
mod ChainLaws
mod ConstructLaws
pub mod Growing
mod LeafLaws
pub mod LoweredLaws
pub mod NodeLaws
pub mod Put
pub mod Rising
pub mod RuleLaws
mod SiblingLaws
mod StepLaws
pub mod TallyLaws
pub mod WayLaws
