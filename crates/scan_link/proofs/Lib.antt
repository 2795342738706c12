pub mod Classes
pub mod Following
