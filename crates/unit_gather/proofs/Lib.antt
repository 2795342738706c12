pub mod Gathering
pub mod Kept
