pub mod Op
pub mod Chain
pub mod Switch
pub mod Effect
pub mod Table
pub mod Coded
