pub mod Gathered
pub mod Backwards
pub mod Filled
