pub mod Shifting
pub mod Testing
pub mod Trying
pub mod Descending
