-- Laws of the tests of records, word by word.
mod ObeysLaws
mod RecordLaws
mod FitLaws
mod CodeLaws
mod NamedLaws
mod RowLaws
