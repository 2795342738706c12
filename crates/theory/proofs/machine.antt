-- The marker machine: commands, rounds and scans, what the marks mean, and what the report's downscan loses.
pub mod Growth
pub mod Commands
pub mod Rounds
pub mod Frame
pub mod Soundness
pub mod Starts
pub mod Meaning
pub mod Budgets
pub mod Bounds
pub mod Order
pub mod Sides
pub mod Forward
pub mod Loss
pub mod Bytes
