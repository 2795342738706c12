pub mod WordArcs
pub mod WordMoves
pub mod Opening
pub mod Levelling
