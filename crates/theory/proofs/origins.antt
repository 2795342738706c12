-- Words with origins: the chosen list, folds over it, the statements that it makes, and demands 2 and 3 over it.
pub mod Choosing
pub mod Folds
pub mod Statements
pub mod Demand3
pub mod Readings
