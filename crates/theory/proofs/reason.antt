-- The reason: distances, the shortest path, the list that is written; and the reason check.
pub mod Levels
pub mod Ending
pub mod Best
pub mod Moves
pub mod Routes
pub mod Repeats
pub mod States
pub mod Writing
pub mod Distances
pub mod Shortest
pub mod Reason
pub mod Halves
pub mod Searching
pub mod Steps
pub mod Check
