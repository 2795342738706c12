pub mod Texts
pub mod Meaning
pub mod Readings
