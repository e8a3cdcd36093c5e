pub mod LoweredMade
