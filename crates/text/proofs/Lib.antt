-- Laws of strings that are compared by numbers of four and eight bytes.
mod EightLaws
mod CharLaws
pub mod ReadLaws
mod Rfc3629Laws
mod RowLaws
pub mod RunLaws
pub mod SameLaws
mod Utf8Examples
pub mod Utf8Laws
