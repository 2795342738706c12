pub mod Bytes
pub mod Search
pub mod Outcomes
pub mod Replies
pub mod Readings
