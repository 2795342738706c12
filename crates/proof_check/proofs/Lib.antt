pub mod Closing
pub mod Replies
pub mod Exactly
pub mod Readings
