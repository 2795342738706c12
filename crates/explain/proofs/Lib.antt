pub mod Ways
pub mod Listed
pub mod Found
pub mod Meaning
pub mod Replies
pub mod Readings
