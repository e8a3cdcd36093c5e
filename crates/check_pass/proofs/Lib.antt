-- Laws of the pass: what is left of the open nodes, the loop's state, the words of a node, the table of limits.
mod Places
mod PlacesLaws
mod Passing
mod PassingLaws
mod FineLaws
mod WordLaws
mod LimitLaws
mod StateLaws
