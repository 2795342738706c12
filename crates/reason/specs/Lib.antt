pub mod Table
pub mod Searched
