pub mod Loop
pub mod Verdicts
pub mod Exactly
pub mod Readings
