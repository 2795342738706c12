pub mod Fields
pub mod Readings
pub mod Saying
