pub mod Written
pub mod NetReason
pub mod Replies
pub mod Readings
