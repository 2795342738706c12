pub mod Shape
pub mod Replies
pub mod Readings
pub mod Exactly
pub mod InNet
