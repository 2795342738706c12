pub mod Sums
pub mod Fleet
pub mod Turns
pub mod Division
