pub mod Swapping
pub mod Sifting
pub mod Draining
pub mod Removing
