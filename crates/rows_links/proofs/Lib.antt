pub mod Linking
pub mod Closing
