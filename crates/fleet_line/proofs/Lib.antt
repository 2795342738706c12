pub mod Wides
pub mod Left
pub mod Lines
pub mod Readings
