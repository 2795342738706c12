pub mod Asks
pub mod Aside
