pub mod Arms
pub mod Bodies
pub mod Total
pub mod Compute
pub mod Told
pub mod Place
