pub mod Over
pub mod Deciding
