-- Compaction: sorting, lists without repeats, lists without one place, the compacted list and what is true of it.
pub mod Counting
pub mod Rising
pub mod Repeats
pub mod Places
pub mod Thinning
pub mod Compacting
pub mod Readings
