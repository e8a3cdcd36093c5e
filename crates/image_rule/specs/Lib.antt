pub mod Rules
pub mod Marks
pub mod Test
pub mod WellMade
