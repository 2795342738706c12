pub mod Bad
pub mod Pairs
pub mod Last
pub mod Outcomes
pub mod Replies
pub mod Readings
