pub mod Ours
pub mod Putting
pub mod AfterReason
pub mod Replies
pub mod Readings
