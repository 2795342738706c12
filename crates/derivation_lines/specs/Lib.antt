pub mod Lines
pub mod Tests
pub mod Deriving
pub mod Flat
pub mod Known
