pub mod Bytes
pub mod Rows
pub mod Outcomes
pub mod Exact
pub mod Replies
pub mod Readings
