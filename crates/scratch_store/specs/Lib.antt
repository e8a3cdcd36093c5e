pub mod Distinct
pub mod Holds
pub mod Does
pub mod Stores
pub mod Stands
pub mod States
pub mod Effects
