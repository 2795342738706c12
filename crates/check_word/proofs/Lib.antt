pub mod Outcomes
pub mod Replies
pub mod Exactly
pub mod Readings
