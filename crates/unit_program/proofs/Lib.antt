pub mod Looping
pub mod MergedScan
pub mod Parsing
pub mod FirstFault
pub mod Stepping
pub mod Determined
