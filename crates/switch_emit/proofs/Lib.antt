pub mod ReadyLaws
mod PartLaws
mod TableLaws
mod ArmDoes
mod BodyDoes
mod CaseDoes
mod SwitchDoes
mod FromLaws
mod NamedLaws
