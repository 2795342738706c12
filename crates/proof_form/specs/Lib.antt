pub mod Checker
pub mod Ours
pub mod FromReason
