pub mod Programs
pub mod Faults
pub mod Wrong
pub mod Runs
pub mod Merged
pub mod Steps
