pub mod Nearer
pub mod Walking
