pub mod Items
pub mod Running
