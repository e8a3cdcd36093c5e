-- What a read adds to what was read.
mod ReadLaws
