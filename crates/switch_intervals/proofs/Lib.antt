-- Laws of the loops over the ranges of a switch, and over their pieces.
mod SearchLaws
mod FirstLaws
mod CutsLaws
mod MarksLaws
mod SpanLaws
mod JoiningLaws
mod RangesLaws
