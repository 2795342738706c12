-- Rows of bits: answers packed into words, and that the computed rows are the exact ones.
pub mod Packing
pub mod Exactly
