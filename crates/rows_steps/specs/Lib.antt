pub mod Members
pub mod Rows
pub mod Steps
pub mod Listing
