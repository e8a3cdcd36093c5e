-- Laws of lists of blocks: the intervals of the table, a list that is read, a hash, a comparison.
pub mod SpanLaws
mod ReadLaws
mod EqualLaws
mod HashLaws
