pub mod Blocks
pub mod Links
pub mod Passed
