-- What the functions tell of each other, and of a sheet.
pub mod Foretold
pub mod FourteenRight
mod GivenLaws
