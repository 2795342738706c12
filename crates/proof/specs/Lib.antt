pub mod Table
pub mod Listed
