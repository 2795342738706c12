pub mod Outcomes
pub mod Alike
pub mod Readings
