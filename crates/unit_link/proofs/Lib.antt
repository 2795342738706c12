pub mod Spreading
pub mod InPlace
