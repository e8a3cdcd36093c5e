-- Laws of counts by different locals.
pub mod BoundLaws
pub mod Adds
mod AnswerLaws
mod CallAdds
mod ChainAdds
pub mod CodeLaws
pub mod CountLaws
pub mod FarLaws
pub mod LinkLaws
pub mod LocalLaws
mod PlanAdds
pub mod PlanLaws
mod SiblingsAdd
pub mod TallyLaws
mod NamedLaws
