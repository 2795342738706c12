pub mod Fields
pub mod Saying
