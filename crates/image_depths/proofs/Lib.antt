-- Laws of the pass over the code: what is read, how marks are found, why they fit a word, and their test.
mod CodeLaws
mod MarkLaws
mod DeepLaws
mod CheckLaws
mod NamedLaws
