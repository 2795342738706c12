pub mod Values
pub mod Table
