pub mod Writing
pub mod Decimals
pub mod Filling
pub mod Denoting
