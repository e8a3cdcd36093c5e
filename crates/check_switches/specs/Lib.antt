pub mod Switch
pub mod Key
