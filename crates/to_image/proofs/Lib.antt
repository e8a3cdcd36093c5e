-- Laws of the answer, of an expression, and of a Switch: what is held, its rows, its words.
mod AnswerLaws
mod BuiltLaws
pub mod ToldLaws
mod PlainLaws
mod SwitchLaws
mod TargetLaws
mod TableLaws
mod HeldLaws
mod WriteLaws
mod NamedLaws
