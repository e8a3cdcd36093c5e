pub mod Texts
pub mod Plain
pub mod Marks
pub mod Read
