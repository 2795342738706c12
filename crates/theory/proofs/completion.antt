-- Completion, and what demand 3 rests on.
pub mod Ascending
pub mod Completing
pub mod Demand3
