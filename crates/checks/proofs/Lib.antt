-- Laws of what is left of the check after the pass, and of verdicts.
mod RestLaws
mod AskedLaws
pub mod VerdictLaws
mod CheckedLaws
pub mod AcceptedLaws
pub mod TextLaws
pub mod EmptyNamesRight
