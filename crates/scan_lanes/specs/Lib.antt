pub mod Lanes
pub mod Codes
pub mod Passes
