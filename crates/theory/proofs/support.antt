-- The supported set: the smallest, what the links reach, Lemma 1, and its laws.
pub mod Smallest
pub mod Reach
pub mod Lemma1
pub mod Joining
