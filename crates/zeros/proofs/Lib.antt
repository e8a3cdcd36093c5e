-- Laws of a list that is zeroed from the front.
pub mod ZeroLaws
