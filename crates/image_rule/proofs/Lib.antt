-- From the definition of a well-made image to the theorem of its test, in the order of the proof.
mod Tells
pub mod Real
mod EdgeLaws
pub mod ComeLaws
pub mod Told
pub mod Right
mod Complete
pub mod WordLaws
pub mod Theorem
pub mod Accepted
