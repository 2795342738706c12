-- Valuations: what is supported is implied, the net's own valuation, and the test of a table.
pub mod Implied
pub mod Tables
pub mod Readings
