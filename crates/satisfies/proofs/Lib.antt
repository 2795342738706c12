pub mod Testing
pub mod Outcomes
pub mod Exactly
pub mod Replies
pub mod Readings
