pub mod Outcomes
pub mod Alike
pub mod Replies
pub mod Readings
