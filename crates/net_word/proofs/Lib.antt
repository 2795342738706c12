pub mod Legality
pub mod Causes
