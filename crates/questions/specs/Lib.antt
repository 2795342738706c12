pub mod Pairs
pub mod Table
