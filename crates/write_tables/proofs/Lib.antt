-- Laws of the sections of tables, and of the whole image.
pub mod Tail
