pub mod Booleans
pub mod Bits
pub mod Over
pub mod Deciding
