pub mod Same
pub mod Eight
pub mod Keyword
pub mod Utf8
pub mod Char
pub mod Rfc3629
pub mod Leads
