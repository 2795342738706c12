pub mod Nodes
pub mod Bytes
pub mod Lanes
pub mod Machine
pub mod Meaning
