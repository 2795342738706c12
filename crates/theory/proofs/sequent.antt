-- The sequent calculus: it is sound and complete; laws of a proof's numbers.
pub mod Sound
pub mod Complete
pub mod Measures
