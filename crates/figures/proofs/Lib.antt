pub mod Rows
pub mod Outcomes
pub mod Asked
pub mod Right
