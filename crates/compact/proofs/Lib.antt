pub mod Outcomes
pub mod Replies
pub mod Readings
