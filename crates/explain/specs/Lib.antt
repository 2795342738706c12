pub mod Straight
pub mod Shape
pub mod Table
pub mod Found
