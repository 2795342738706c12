pub mod Seen
pub mod Turns
pub mod Bounded
pub mod Parts
pub mod Meaning
pub mod Readings
