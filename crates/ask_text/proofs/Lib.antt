pub mod Whole
pub mod Readings
pub mod Bounded
