mod AnswerLaws
pub mod MadeLaws
